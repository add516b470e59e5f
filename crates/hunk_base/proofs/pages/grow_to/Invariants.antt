use Rattle.std.proofs.Common.{◌+◌, ◌-◌, vec_len}
use Rattle.hunk_base.specs.Pages.{AppendsEmptyPages}
use Rattle.hunk_base.proofs.pages.grow_to.Given as goal

abbrev pub invariant-loop-alloc : goal.invariant-loop-alloc
invariant-loop-alloc g l = AppendsEmptyPages l.initial.pages.items l.pages.items

abbrev pub decreases-loop-alloc : goal.decreases-loop-alloc
decreases-loop-alloc g l = l.number + 1 - vec_len l.pages
