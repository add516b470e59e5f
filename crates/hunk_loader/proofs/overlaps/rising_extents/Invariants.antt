use Rattle.hunk_loader.specs.Overlaps.{AreExtents}
use Rattle.hunk_loader.proofs.overlaps.rising_extents.Given as goal

abbrev pub invariant-loop-hunk : goal.invariant-loop-hunk
invariant-loop-hunk g l = AreExtents (g.S.Sizes.sizes l.sizes) l.bases l.hunk l.extents.items
