-- The hunks so far do not differ.
use Rattle.std.proofs.Common.{◌≡◌, drop}
use Rattle.hunk_loadfile.specs.InfoDifference.{hunks_info_difference}
use Rattle.hunk_loadfile.proofs.info_difference.first_info_difference.Given as goal

abbrev pub invariant-loop-number : goal.invariant-loop-number
invariant-loop-number g l = hunks_info_difference 0 l.first l.second ≡ hunks_info_difference l.number (drop l.number l.first) (drop l.number l.second)
