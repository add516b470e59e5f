-- One more site.
use Rattle.std.proofs.Common.{◌∙◌, ℕ}
use Rattle.hunk_json.specs.FileJson.{hunk_site_json}
use Rattle.hunk_json.proofs.DocumentLemmas.{Listing-all, Listing-more, Listing-none, told-utf8}
use Rattle.hunk_json.proofs.FileJsonLemmas.{hunk_site-told}
use Rattle.hunk_json.proofs.load.write_sites.Goals as goal

pub loop-offset-init : goal.loop-offset-init
loop-offset-init g c =
    let all = c.into_iter-offset-iterator.ensures.into_iter_gives ∙ c.walk-offset-items.ensures.rest in
    record {
      can_next = tt;
      is_finite = tt;
      listing = rw all (Listing-none g.W.Sink.taken g.W.Sink.failed c.args.form hunk_site_json c.args.sites.now.entries c.put.ensures);
    }

pub loop-offset-preserved : goal.loop-offset-preserved
loop-offset-preserved g c =
    let site : ℕ × ℕ = (c.in-Some.offset, c.in-Some.hunk.now) in
    record {
      can_next = tt;
      is_finite = tt;
      listing =
          Listing-more g.W.Sink.taken g.W.Sink.failed c.args.form hunk_site_json site c.loop-offset.invariant.listing c.in-Some.ensures.steps (told-utf8 (hunk_site_json site) (hunk_site-told site))
          c.write_comma.ensures c.write_hunk_site.ensures;
    }

pub returns : goal.returns
returns g c = Listing-all g.W.Sink.taken g.W.Sink.failed c.args.form hunk_site_json c.loop-offset.invariant.listing c.in-None.ensures.steps.0 c.put-2.ensures
