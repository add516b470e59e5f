-- The lines of the sites so far were put.
use Rattle.hunk_base.proofs.TextLemmas.{Walked}
use Rattle.hunk_text.specs.Listing.{adds_hunk, site_line}
use Rattle.hunk_text.proofs.load_listing.write_sites.Given as goal

abbrev pub invariant-loop-offset : goal.invariant-loop-offset
invariant-loop-offset g l = record {
  can_next : (goal.iterator-loop-offset g).can_next l.offset-iterator;
  is_finite : (goal.iterator-loop-offset g).is_finite l.offset-iterator;
  walked : Walked g.W.Sink.taken g.W.Sink.failed (λ site. site_line site.0 (adds_hunk site.1)) l.fn.text l.text l.offset-iterator l.sites.entries;
}
