-- What is left, and what the units so far take.
use Rattle.std.proofs.Common.{◌≡◌, ◌+◌, sum_by, take}
use Rattle.hunk_loadfile.specs.Rules.{most_carried, most_size}
use Rattle.hunk_link.proofs.LimitsLemmas.{unit_carried, unit_size}
use Rattle.hunk_link.proofs.limits.is_small.Given as goal

abbrev pub invariant-loop-unit : goal.invariant-loop-unit
invariant-loop-unit g l = record {
  size : l.room.size + sum_by unit_size (take l.unit-index l.units) ≡ most_size;
  carried : l.room.carried + sum_by (unit_carried l.strip) (take l.unit-index l.units) ≡ most_carried;
}
