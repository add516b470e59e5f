-- One more site.
use Rattle.std.proofs.Common.{◌∙◌, ℕ, ap}
use Rattle.hunk_base.specs.Sites.{SiteMap}
use Rattle.hunk_objects.specs.declared.unit_hunk.Adds.{Adds}
use Rattle.hunk_json.specs.FileJson.{site_json}
use Rattle.hunk_json.proofs.DocumentLemmas.{Listing-all, Listing-more, Listing-none, told-utf8}
use Rattle.hunk_json.proofs.FileJsonLemmas.{adds-told}
use Rattle.hunk_json.proofs.object.write_sites.Goals as goal

pub loop-offset-init : goal.loop-offset-init
loop-offset-init g c =
    let hunk = c.args.hunk.now in
    let all = c.into_iter-offset-iterator.ensures.into_iter_gives ∙ c.walk-offset-items.ensures.rest ∙ ap (λ (sites : SiteMap Adds). sites.entries) c.sites.ensures.value in
    record {
      can_next = tt;
      is_finite = tt;
      listing = rw all (Listing-none g.W.Sink.taken g.W.Sink.failed c.args.form (site_json hunk.references) hunk.sites.entries c.put.ensures);
    }

pub loop-offset-preserved : goal.loop-offset-preserved
loop-offset-preserved g c =
    let references = c.args.hunk.now.references in
    let site : ℕ × Adds = (c.in-Some.offset, c.in-Some.adds.now) in
    record {
      can_next = tt;
      is_finite = tt;
      listing =
          Listing-more g.W.Sink.taken g.W.Sink.failed c.args.form (site_json references) site c.loop-offset.invariant.listing c.in-Some.ensures.steps
          (told-utf8 (site_json references site) (adds-told references site.0 site.1)) c.write_comma.ensures (rw c.references-references.ensures.value at c.write_site.ensures);
    }

pub returns : goal.returns
returns g c =
    let references = c.args.hunk.now.references in
    Listing-all g.W.Sink.taken g.W.Sink.failed c.args.form (site_json references) c.loop-offset.invariant.listing c.in-None.ensures.steps.0 c.put-2.ensures
