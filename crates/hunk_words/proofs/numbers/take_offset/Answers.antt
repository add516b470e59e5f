-- The taker judges the offset.
use Rattle.std.proofs.Common.{arith}
use Rattle.hunk_words.proofs.NumbersOffsetLemmas.{offset-taken, offset-refused}
use Rattle.hunk_words.proofs.numbers.take_offset.Goals as goal

pub returns-in-Ok-clause-answer : goal.returns-in-Ok-clause-answer
returns-in-Ok-clause-answer g c = λ state more fs at reached few.
    offset-taken _ _ _ state more c.args.target fs at c.args.offset _ reached few (omega arith) (c.in-Ok.ensures.judges _ reached.stands (omega arith)) (c.in-Ok.ensures.takes _ reached.stands (omega arith))

pub returns-in-Err-clause-answer : goal.returns-in-Err-clause-answer
returns-in-Err-clause-answer g c = λ state more fs at reached few.
    rw c.refused_site.ensures (offset-refused _ _ (g.T.Taker.stands_for c.take.new.self) state more c.args.target fs at c.args.offset c.in-Err.refusal reached (c.in-Err.ensures.judges _ reached.stands (omega arith)))
