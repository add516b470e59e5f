-- The hunks so far do not differ.
use Rattle.std.proofs.Common.{◌≡◌, drop}
use Rattle.hunk_loadfile.specs.Difference.{hunks_difference}
use Rattle.hunk_loadfile.proofs.difference.first_difference.Given as goal

abbrev pub invariant-loop-number : goal.invariant-loop-number
invariant-loop-number g l = hunks_difference 0 l.first l.second ≡ hunks_difference l.number (drop l.number l.first) (drop l.number l.second)
