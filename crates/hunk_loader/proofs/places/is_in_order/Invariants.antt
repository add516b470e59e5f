use Rattle.std.proofs.Common.{length}
use Rattle.hunk_loader.specs.Places.{hunk_at}
use Rattle.hunk_loader.proofs.PlacesOrderLemmas.{OrderTo}
use Rattle.hunk_loader.proofs.places.is_in_order.Given as goal

abbrev pub invariant-loop-count : goal.invariant-loop-count
invariant-loop-count g l = OrderTo (hunk_at l.direction (length l.bases)) (g.S.Sizes.sizes l.sizes) l.bases l.count l.free
