-- One number or two.
use Rattle.std.proofs.Common.{◌≡◌, ◌/◌, ◌^◌, refl, ◌∙◌, true, false, arith}
use Rattle.hunk_words.specs.Kinds.{is_half, width, field}
use Rattle.hunk_words.specs.Machine.{due}
use Rattle.hunk_words.specs.Event.{events}
use Rattle.hunk_words.specs.Taker.{sizes_told}
use Rattle.hunk_words.specs.State.{around}
use Rattle.hunk_words.specs.Reading.{field_next}
use Rattle.hunk_words.proofs.NumbersWordLemmas.{MayCome-long, MayCome-upper, MayCome-lower, WordAnswered-long, WordAnswered-halves, is_half-reached}
use Rattle.hunk_words.proofs.numbers.take_word.Goals as goal

pub returns-in-Ok-clause-answer : goal.returns-in-Ok-clause-answer
returns-in-Ok-clause-answer g c = λ fs at reached few.
    let s = c.args.state in
    let is : is_half (width (due at.stack)) ≡ true = is_half-reached _ _ s fs at _ reached (c.is_halved.ensures (around s (sizes_told g.T.Taker.KIND (events fs)))) ∙ c.if-is_halved.true in
    let first = c.in-Ok.ensures.answer fs at reached (MayCome-upper _ fs at c.args.word refl is (omega arith) few) in
    WordAnswered-halves _ _ fs at c.args.word c.take_number-in-Ok.result is first.0
    (c.take_number-in-Ok.ensures.answer _ (field_next at (c.args.word / 2 ^ 16)) first.1 (MayCome-lower fs (field (due at.stack) (c.args.word / 2 ^ 16)) (field_next at (c.args.word / 2 ^ 16)) c.args.word few))

pub returns-else-is_halved-clause-answer : goal.returns-else-is_halved-clause-answer
returns-else-is_halved-clause-answer g c = λ fs at reached few.
    let s = c.args.state in
    let is : is_half (width (due at.stack)) ≡ false = is_half-reached _ _ s fs at _ reached (c.is_halved.ensures (around s (sizes_told g.T.Taker.KIND (events fs)))) ∙ c.if-is_halved.false in
    WordAnswered-long _ _ fs at c.args.word c.take_number-else-is_halved.result is
    (c.take_number-else-is_halved.ensures.answer fs at reached (MayCome-long fs at c.args.word is (omega arith) few))
