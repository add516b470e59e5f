use Rattle.std.proofs.Common.{◌≡◌, ◌+◌, ◌*◌, ◌≤◌, ◌^◌, length}
use Rattle.std.specs.Slice.Iter.{iter_rest}
use Rattle.hunk_base.specs.Slots.{present, slots_from}
use Rattle.hunk_base.proofs.slots.SlotsIter.next_site.Given as goal

abbrev pub invariant-loop-mark : goal.invariant-loop-mark
invariant-loop-mark g l =
    (present (slots_from l.self-inside.start (iter_rest l.self-inside.marks) (iter_rest l.self-inside.targets))
    ≡ present (slots_from l.initial.self-inside.start (iter_rest l.initial.self-inside.marks) (iter_rest l.initial.self-inside.targets)))
    × (l.self-inside.start + 4 * length (iter_rest l.self-inside.marks) ≤ 2 ^ 32)
    × (length (iter_rest l.self-inside.marks) ≡ length (iter_rest l.self-inside.targets))

abbrev pub decreases-loop-mark : goal.decreases-loop-mark
decreases-loop-mark g l = length (iter_rest l.self-inside.marks)
