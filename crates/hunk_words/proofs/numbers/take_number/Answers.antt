-- The table lets the number pass, and the taker judges its event.
use Rattle.std.proofs.Common.{Ok, Err}
use Rattle.hunk_words.specs.Event.{events}
use Rattle.hunk_words.specs.Taker.{sizes_told}
use Rattle.hunk_words.specs.State.{Steps}
use Rattle.hunk_words.proofs.NumbersLemmas.{number-taken, number-answered}
use Rattle.hunk_words.proofs.NumbersOffsetLemmas.{site-stops}
use Rattle.hunk_words.proofs.numbers.take_number.Goals as goal

pub returns-in-Ok-tell-clause-answer : goal.returns-in-Ok-tell-clause-answer
returns-in-Ok-tell-clause-answer g c = λ fs at reached may.
    let told = events fs in
    let steps : Steps c.args.state (sizes_told g.T.Taker.KIND told) c.args.number c.in-Ok.next =
    c.in-Ok.ensures (sizes_told g.T.Taker.KIND told) reached.is_state (c.size_asked-size.ensures told reached.stands reached.file reached.is_state) in
    number-taken _ _ _ _ fs at c.args.number c.in-Ok.next reached may steps
    (number-answered _ _ _ fs at c.args.number c.in-Ok.next (Ok c.in-Ok-tell.field-0) reached steps (c.in-Ok-tell.ensures.judges told reached.stands may.few))
    (c.in-Ok-tell.ensures.takes told reached.stands may.few)

pub returns-in-Err-tell-clause-answer : goal.returns-in-Err-tell-clause-answer
returns-in-Err-tell-clause-answer g c = λ fs at reached may.
    let told = events fs in
    let steps : Steps c.args.state (sizes_told g.T.Taker.KIND told) c.args.number c.in-Ok.next =
    c.in-Ok.ensures (sizes_told g.T.Taker.KIND told) reached.is_state (c.size_asked-size.ensures told reached.stands reached.file reached.is_state) in
    rw c.refused_site.ensures (site-stops _ _ (g.T.Taker.stands_for c.tell.new.taker) _ fs at c.args.number c.in-Ok.next c.in-Err-tell.refusal reached steps
    (number-answered _ _ _ fs at c.args.number c.in-Ok.next (Err c.in-Err-tell.refusal) reached steps (c.in-Err-tell.ensures.judges told reached.stands may.few)))
