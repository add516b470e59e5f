use Rattle.std.proofs.Common.{sym, arith}
use Rattle.hunk_base.proofs.SlotsLemmas.{target_at-marked, target_at-unmarked}
use Rattle.hunk_base.proofs.slots.Slots.get.Goals as goal
use Rattle.hunk_base.proofs.slots.Slots.get.Goals.{else-mark-lt-NO_SITE-via-then-mark-lt-NO_SITE+else-self-number, else-mark-lt-NO_SITE-via-else-mark-lt-NO_SITE}

pub returns-then-self-number : goal.returns-then-self-number
returns-then-self-number g c =
    rw (← c.self.view_is)
    (sym (target_at-marked c.self.inside.first c.slot_number-number.result c.args.offset c.index.result.now c.index-2.result.now c.self.inside.marks.items c.self.inside.targets.items c.self.invariant
    c.slot_number-number.ensures c.index.ensures c.index-2.ensures c.if-mark-lt-NO_SITE.true (omega (arith, c.if-self-number.true, c.from.ensures))))

pub returns-else-mark-lt-NO_SITE : goal.returns-else-mark-lt-NO_SITE
returns-else-mark-lt-NO_SITE g c =
    rw (← c.self.view_is)
    (sym (target_at-unmarked c.self.inside.first c.slot_number-number.result c.args.offset c.index.result.now c.index-2.result.now c.self.inside.marks.items c.self.inside.targets.items c.self.invariant
    c.slot_number-number.ensures c.index.ensures c.index-2.ensures (λ some at. elim c.else-mark-lt-NO_SITE.branch [
      | else-mark-lt-NO_SITE-via-then-mark-lt-NO_SITE+else-self-number w ↦ omega (arith, at, w.if-self-number.false, w.from.ensures)
      | else-mark-lt-NO_SITE-via-else-mark-lt-NO_SITE w ↦ omega (arith, some, w.if-mark-lt-NO_SITE.false)
    ])))
