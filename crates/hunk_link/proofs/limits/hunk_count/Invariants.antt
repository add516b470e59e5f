-- The hunks of the units so far, and what the types of these units say.
use Rattle.std.proofs.Common.{◌≡◌, ◌≤◌, sum_by, take}
use Rattle.std.specs.List.{All}
use Rattle.hunk_loadfile.specs.Rules.{most_hunks}
use Rattle.hunk_objects.specs.ProgramUnit.{hunk_count}
use Rattle.hunk_link.specs.Ranks.{IsUnit}
use Rattle.hunk_link.proofs.limits.hunk_count.Given as goal

abbrev pub invariant-loop-unit : goal.invariant-loop-unit
invariant-loop-unit g l = record {
  counted : l.count ≡ sum_by hunk_count (take l.unit-index l.units);
  few : l.count ≤ most_hunks;
  typed : All IsUnit (take l.unit-index l.units);
}
