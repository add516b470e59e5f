-- The hunks of the longwords so far.
use Rattle.std.proofs.Common.{◌≡◌, ◌≤◌, ◌+◌, ◌-◌, ◌*◌, drop, map, take, vec_len, vec_capacity}
use Rattle.hunk_base.specs.Longwords.{longwords}
use Rattle.hunk_loader.specs.HeaderHunks.{header_hunk}
use Rattle.hunk_loader.proofs.header_hunks.header_hunks.Given as goal

abbrev pub invariant-loop-index : goal.invariant-loop-index
invariant-loop-index g l = record {
  room : l.count - 5 ≤ vec_capacity l.hunks;
  len : vec_len l.hunks + 5 ≡ l.index;
  value : l.hunks.items ≡ map header_hunk (drop 5 (longwords (take (4 * l.index) l.bytes)));
}
