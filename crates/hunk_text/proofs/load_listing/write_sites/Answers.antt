-- The sites before the first, and one more.
use Rattle.std.proofs.Common.{ℕ, List}
use Rattle.hunk_base.proofs.TextLemmas.{Walked-more, Walked-none}
use Rattle.hunk_text.specs.Listing.{adds_hunk, site_line}
use Rattle.hunk_text.proofs.load_listing.write_sites.Goals as goal

abbrev line_of : ℕ × ℕ → List ℕ
line_of site = site_line site.0 (adds_hunk site.1)

pub loop-offset-init : goal.loop-offset-init
loop-offset-init g c =
    record {
      can_next = tt;
      is_finite = tt;
      walked = rw (c.into_iter-offset-iterator.ensures.into_iter_gives, c.walk-offset-items.ensures.rest) (Walked-none g.W.Sink.taken g.W.Sink.failed line_of c.args.text.now c.args.sites.now.entries);
    }

pub loop-offset-preserved : goal.loop-offset-preserved
loop-offset-preserved g c =
    record {
      can_next = tt;
      is_finite = tt;
      walked = Walked-more g.W.Sink.taken g.W.Sink.failed line_of (c.in-Some.offset, c.in-Some.hunk.now) c.loop-offset.invariant.walked c.in-Some.ensures.steps c.write_hunk_site.ensures;
    }
