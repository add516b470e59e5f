-- The hunks so far have no byte there.
use Rattle.std.proofs.Common.{◌≡◌, drop}
use Rattle.hunk_loader.specs.Image.{hunks_of, memory_map}
use Rattle.amihunk_c.proofs.point.find.Given as goal

abbrev pub invariant-loop-number : goal.invariant-loop-number
invariant-loop-number l = memory_map (hunks_of (drop l.number l.hunks)) l.address ≡ memory_map (hunks_of l.hunks) l.address
