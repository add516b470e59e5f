use Rattle.hunk_loader.proofs.OverlapsLemmas.{OrderTo}
use Rattle.hunk_loader.proofs.overlaps.are_in_order_below.Given as goal

abbrev pub invariant-loop-extent : goal.invariant-loop-extent
invariant-loop-extent l = OrderTo l.extents l.limit l.extent-index l.free
