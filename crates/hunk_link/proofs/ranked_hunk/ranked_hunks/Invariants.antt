-- The hunks so far, followed by the remaining ones, are all hunks.
use Rattle.std.proofs.Common.{◌≡◌, ◌+◌, ◌++◌, drop, sum_by, vec_len, vec_capacity}
use Rattle.hunk_objects.specs.ProgramUnit.{hunk_count}
use Rattle.hunk_link.specs.Ranks.{hunks_from, hunks_of}
use Rattle.hunk_link.proofs.RanksLemmas.{hunks_behind}
use Rattle.hunk_link.proofs.ranked_hunk.ranked_hunks.Given as goal

abbrev pub invariant-loop-unit : goal.invariant-loop-unit
invariant-loop-unit g l = record {
  room : vec_capacity l.ranked ≡ l.total;
  len : vec_len l.ranked + sum_by hunk_count (drop l.unit l.units) ≡ l.total;
  value : l.ranked.items ++ hunks_from l.unit (vec_len l.ranked) (drop l.unit l.units) ≡ hunks_of l.units;
}

abbrev pub invariant-loop-number : goal.invariant-loop-number
invariant-loop-number g l = record {
  room : vec_capacity l.ranked ≡ l.total;
  len : vec_len l.ranked ≡ l.first + l.number;
  value : l.ranked.items ++ (hunks_behind l.unit l.first l.count l.number (drop l.number l.hunk-items) ++ hunks_from (l.unit + 1) (l.first + l.count) (drop (l.unit + 1) l.units)) ≡ hunks_of l.units;
}
