use Rattle.std.proofs.Common.{◌+◌, arith, sym, subst}
use Rattle.std.proofs.lemmas.Bool.{false≢true}
use Rattle.hunk_loader.proofs.OverlapsLemmas.{OrderTo, OrderTo-more, OrderTo-skip, OrderTo-stop}
use Rattle.hunk_loader.proofs.overlaps.are_in_order_below.Goals as goal
use Rattle.hunk_loader.proofs.overlaps.are_in_order_below.Goals.{then-extent-limit+else-from-free, else-extent-limit}

pub returns-then-from-free : goal.returns-then-from-free
returns-then-from-free c = (
  λ no. absurd (false≢true no),
  λ order. absurd (OrderTo-stop c.args.extents.now c.args.limit c.loop-extent.extent-index c.loop-extent.free c.loop-extent.invariant c.loop-extent-test.true c.if-extent-limit.true (omega (arith, c.if-from-free.true, c.from.ensures)) order),
)

pub loop-extent-preserved : goal.loop-extent-preserved
loop-extent-preserved c =
    let extents = c.args.extents.now in
    let index = c.loop-extent.extent-index in
    elim c.if-extent-limit.branch [
      | then-extent-limit+else-from-free w ↦ subst (OrderTo extents c.args.limit (index + 1)) (sym w.free-is)
          (OrderTo-more extents c.args.limit index c.loop-extent.free w.max-free.result c.loop-extent.invariant c.loop-extent-test.true w.if-extent-limit.true (omega (arith, w.if-from-free.false, w.from.ensures)) w.max-free.ensures)
      | else-extent-limit w ↦ subst (OrderTo extents c.args.limit (index + 1)) (sym w.free-is)
          (OrderTo-skip extents c.args.limit index c.loop-extent.free c.loop-extent.invariant c.loop-extent-test.true w.if-extent-limit.false)
    ]
