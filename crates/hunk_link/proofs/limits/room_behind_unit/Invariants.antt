-- What is left, and what the hunks so far take.
use Rattle.std.proofs.Common.{◌≡◌, ◌+◌, sum_by, take}
use Rattle.hunk_objects.specs.UnitHunk.{ObjectHunk}
use Rattle.hunk_link.specs.Limits.{carried_by}
use Rattle.hunk_link.proofs.limits.room_behind_unit.Given as goal

abbrev pub invariant-loop-hunk : goal.invariant-loop-hunk
invariant-loop-hunk g l = record {
  size : l.left.size + sum_by (λ (hunk : ObjectHunk). hunk.size) (take l.hunk-index l.hunk-items) ≡ l.fn.room.size;
  carried : l.left.carried + sum_by (carried_by l.fn.strip) (take l.hunk-index l.hunk-items) ≡ l.fn.room.carried;
}
