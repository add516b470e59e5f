-- The hunks of the units so far.
use Rattle.std.proofs.Common.{◌≡◌, sum_by, take}
use Rattle.hunk_objects.specs.ProgramUnit.{hunk_count}
use Rattle.hunk_objects.proofs.program_unit.hunk_total.Given as goal

abbrev pub invariant-loop-unit : goal.invariant-loop-unit
invariant-loop-unit g l = l.total ≡ sum_by hunk_count (take l.unit-index l.units)
