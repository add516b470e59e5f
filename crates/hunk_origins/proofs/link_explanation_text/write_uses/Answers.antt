-- One more name.
use Rattle.std.proofs.Common.{◌∙◌, ℕ, List, ◌-◌, map, sym, ap, arith}
use Rattle.std.proofs.lemmas.Option.{slice_get_within}
use Rattle.hunk_base.proofs.TextLemmas.{Puts-as}
use Rattle.hunk_origins.specs.LinkExplanation.{more_line, most_told}
use Rattle.hunk_origins.specs.Undefined.{Use}
use Rattle.hunk_origins.proofs.BegunLemmas.{Begun-done, Begun-last, Begun-more}
use Rattle.hunk_origins.proofs.LinkExplanationLemmas.{uses_rest-last, uses_rest-more, uses_rest-none}
use Rattle.hunk_origins.proofs.link_explanation_text.write_uses.Goals as goal

pub returns-in-None : goal.returns-in-None
returns-in-None g c =
    let names = map g.N.FileName.bytes c.args.names.now in
    Begun-done g.W.Sink.taken g.W.Sink.failed (uses_rest-none names c.loop-index.index c.args.uses.now c.loop-index-test.true (sym c.in-None.ensures)) c.loop-index.invariant.begun

pub loop-index-preserved : goal.loop-index-preserved
loop-index-preserved g c =
    let names = map g.N.FileName.bytes c.args.names.now in
    let uses = c.args.uses.now in
    let index = c.loop-index.index in
    let used : List ℕ × Use = (c.in-Some.name.now, c.in-Some.used.now) in
    record {
      within = omega (arith, slice_get_within uses index used (sym c.in-Some.ensures));
      begun = Begun-more g.W.Sink.taken g.W.Sink.failed (uses_rest-more names index uses used c.loop-index-test.true (sym c.in-Some.ensures)) c.loop-index.invariant.begun c.write_use.ensures;
    }

pub returns : goal.returns
returns g c =
    let names = map g.N.FileName.bytes c.args.names.now in
    let last = ap (λ count. more_line (count - most_told)) c.len.ensures ∙ sym (uses_rest-last names c.loop-index.index c.args.uses.now c.loop-index-test.false) in
    Begun-last g.W.Sink.taken g.W.Sink.failed c.loop-index.invariant.begun (Puts-as last c.write_more.ensures)
