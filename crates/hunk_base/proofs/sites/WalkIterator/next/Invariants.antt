use Rattle.std.proofs.Common.{◌≡◌, length, ◌++◌}
use Rattle.std.specs.Slice.Iter.{iter_rest}
use Rattle.hunk_base.specs.Pages.{all_sites}
use Rattle.hunk_base.proofs.sites.WalkIterator.next.Given as goal

abbrev pub invariant-loop-offset : goal.invariant-loop-offset
invariant-loop-offset g l =
    iter_rest l.self-inside.list ++ l.self-inside.table ++ all_sites (iter_rest l.self-inside.pages)
    ≡ iter_rest l.initial.self-inside.list ++ l.initial.self-inside.table ++ all_sites (iter_rest l.initial.self-inside.pages)

abbrev pub decreases-loop-offset : goal.decreases-loop-offset
decreases-loop-offset g l = length (iter_rest l.self-inside.pages)
