-- The remaining hunks have the same byte as all hunks.
use Rattle.std.proofs.Common.{◌≡◌, drop}
use Rattle.hunk_loader.specs.Image.{hunks_of, memory_map}
use Rattle.hunk_loader.proofs.image.Image.byte.Given as goal

abbrev pub invariant-loop-hunk : goal.invariant-loop-hunk
invariant-loop-hunk g l =
    memory_map (hunks_of (drop l.hunk-index l.hunk-items)) l.address ≡ memory_map (hunks_of l.hunk-items) l.address
