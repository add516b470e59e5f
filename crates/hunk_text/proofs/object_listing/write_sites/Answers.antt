-- The sites before the first, and one more.
use Rattle.std.proofs.Common.{ℕ, List}
use Rattle.hunk_objects.specs.declared.unit_hunk.Adds.{Adds}
use Rattle.hunk_base.proofs.TextLemmas.{Walked-more, Walked-none}
use Rattle.hunk_text.specs.Listing.{adds_text, site_line}
use Rattle.hunk_text.proofs.object_listing.write_sites.Goals as goal

abbrev line_of : List (List ℕ) → ℕ × Adds → List ℕ
line_of references site = site_line site.0 (adds_text references site.1)

pub loop-offset-init : goal.loop-offset-init
loop-offset-init g c =
    record {
      can_next = tt;
      is_finite = tt;
      walked = rw (c.into_iter-offset-iterator.ensures.into_iter_gives, c.walk-offset-items.ensures.rest, c.sites.ensures.value) (Walked-none g.W.Sink.taken g.W.Sink.failed (line_of c.args.hunk.now.references) c.args.text.now c.args.hunk.now.sites.entries);
    }

pub loop-offset-preserved : goal.loop-offset-preserved
loop-offset-preserved g c =
    record {
      can_next = tt;
      is_finite = tt;
      walked =
          Walked-more g.W.Sink.taken g.W.Sink.failed (line_of c.args.hunk.now.references) (c.in-Some.offset, c.in-Some.adds.now) c.loop-offset.invariant.walked c.in-Some.ensures.steps (rw c.references-references.ensures.value at c.write_site.ensures);
    }
