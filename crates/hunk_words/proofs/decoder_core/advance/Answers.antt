-- One more longword: it is taken, or rejected at its place.
use Rattle.std.proofs.Common.{arith}
use Rattle.hunk_words.specs.DecoderCore.{fields_read}
use Rattle.hunk_words.proofs.DecoderCoreLemmas.{StandsBy-taken, StandsBy-too_large, few-events}
use Rattle.hunk_words.proofs.DecoderCoreOffsetsLemmas.{StandsBy-stopped}
use Rattle.hunk_words.proofs.decoder_core.advance.Goals as goal

pub returns-then-place-ge-MOST_LONGWORDS-clause-stands : goal.returns-then-place-ge-MOST_LONGWORDS-clause-stands
returns-then-place-ge-MOST_LONGWORDS-clause-stands g c = λ ws b. rw c.refused.ensures (StandsBy-too_large _ _ _ c.args.core ws c.args.word b (omega arith))

pub returns-in-Ok-clause-stands : goal.returns-in-Ok-clause-stands
returns-in-Ok-clause-stands g c = λ ws b. StandsBy-taken _ _ _ c.args.core ws c.args.word c.in-Ok.state b (omega arith) (omega arith)
    (c.in-Ok.ensures.answer (fields_read g.T.Taker.KIND ws) b.progress b.reached (few-events _ _ c.args.core ws b (omega arith)))

pub returns-in-Err-clause-stands : goal.returns-in-Err-clause-stands
returns-in-Err-clause-stands g c = λ ws b. rw c.refusal_at.ensures (StandsBy-stopped _ _ _ c.args.core ws c.args.word c.in-Err.stop b (omega arith) (omega arith)
    (c.in-Err.ensures.answer (fields_read g.T.Taker.KIND ws) b.progress b.reached (few-events _ _ c.args.core ws b (omega arith))))
