use Rattle.std.proofs.Common.{◌≡◌, ◌+◌, take}
use Rattle.hunk_base.proofs.slots.Slots.of_sorted.Given as goal

abbrev pub invariant-loop-offset : goal.invariant-loop-offset
invariant-loop-offset g l = l.table ≡ take (l.offset-index + 1) l.sites
