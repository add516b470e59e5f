-- One more hunk.
use Rattle.std.proofs.Common.{◌∙◌, ap, not, sym, take, arith}
use Rattle.std.proofs.lemmas.Grind.{common_steps}
use Rattle.std.proofs.lemmas.List.Elements.{filter-append}
use Rattle.hunk_link.proofs.ItemsLemmas.{flat_map-more}
use Rattle.hunk_origins.specs.DefinedNames.{is_defined}
use Rattle.hunk_origins.specs.Undefined.{Reference, references, references_of, undefined, uses_of}
use Rattle.hunk_origins.proofs.undefined.Uses.undefined.Goals as goal

pub loop-origin-preserved : goal.loop-origin-preserved
loop-origin-preserved g c =
    let hunks = c.args.hunks.now in
    let index = c.loop-origin.origin-index in
    let origin = c.origin-item.result in
    let earlier = references (take index hunks) in
    c.in_ok-add_hunk.ensures (undefined hunks earlier) hunks c.loop-origin.invariant c.in_ok-defined.ensures
    ∙ ap uses_of (sym (ap (undefined hunks) (flat_map-more references_of hunks index origin c.loop-origin-test.true c.origin-item.is) ∙ filter-append (λ (r : Reference). not (is_defined r.0 hunks)) earlier (references_of origin)))

-- `grind` at once: `search`, which Rattle tries before it, is slow here
pub returns : goal.returns
returns g c = grind (arith, common_steps)
