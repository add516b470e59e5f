use Rattle.std.proofs.Common.{◌∙◌, sym, arith}
use Rattle.hunk_base.proofs.SlotsLemmas.{SharesWithMarks-last}
use Rattle.hunk_base.proofs.slots.is_free_in.Goals as goal
use Rattle.hunk_base.proofs.slots.is_free_in.Goals.{then-is_apart, else-is_apart}

pub returns-then-is_apart-2 : goal.returns-then-is_apart-2
returns-then-is_apart-2 c = elim c.if-is_apart.branch [
  | then-is_apart w ↦
      SharesWithMarks-last c.is_apart-then-is_apart-2.result c.args.first _ c.slot_number-number.result _ c.args.offset c.args.marks.now c.requires.page c.requires.all (omega arith) c.slot_number-number.ensures (omega arith)
      (rw w.if-is_apart.true at c.is_apart.ensures) (rw (sym w.value-is ∙ c.if-is_apart-2.true) at w.is_apart-then-is_apart.ensures) c.is_apart-then-is_apart-2.ensures
  | else-is_apart w ↦ absurd (let wrong = sym w.value-is ∙ c.if-is_apart-2.true in cc)
]
