use Rattle.std.proofs.Common.{[], ◌∷◌, ◌∙◌, sym, append-nil}
use Rattle.byteorder.specs.Endian.{big_bytes}
use Rattle.hunk_words.specs.declared.event.Event.TheVariants.{Word}
use Rattle.hunk_loadfile.proofs.ComparerLemmas.{steps-beside, steps-content}
use Rattle.hunk_loadfile.proofs.comparer.Comparer.add_word.Goals as goal

pub returns-then-takes_content-clause-steps : goal.returns-then-takes_content-clause-steps
returns-then-takes_content-clause-steps g c =
    steps-content c.args.self.now c.take_content.new.self c.take_content.result c.args.word
    (λ told watch h. sym (c.takes_content.ensures _ watch h.builds) ∙ c.if-takes_content.true)
    (λ told watch h. c.take_content.ensures.compares told watch (c.args.word ∷ []) h (c.big_endian.ensures ∙ sym (append-nil (big_bytes 4 c.args.word))))

pub returns-else-takes_content-clause-steps : goal.returns-else-takes_content-clause-steps
returns-else-takes_content-clause-steps g c =
    steps-beside c.args.self.now c.take.new.self c.take.result (Word c.args.word) c.take.ensures.only
    (λ told watch h. sym (c.takes_content.ensures _ watch h.builds) ∙ c.if-takes_content.false) c.take.ensures.steps
