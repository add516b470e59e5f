-- The first longword is taken, and an error stands for those after it.
use Rattle.std.proofs.Common.{◌++◌, take, subst, arith}
use Rattle.hunk_base.specs.Longwords.{longwords}
use Rattle.hunk_words.specs.DecoderCore.{StandsFor}
use Rattle.hunk_words.proofs.DecoderCoreLemmas.{StandsBy-append}
use Rattle.hunk_base.proofs.LongwordsLemmas.{words-first, words-rest}
use Rattle.hunk_words.proofs.decoder_core.Core.take_one.Goals as goal

pub returns-in-Ok-clause-stands : goal.returns-in-Ok-clause-stands
returns-in-Ok-clause-stands g c = λ ws stands.
    subst (λ us. StandsFor g.T.Taker.KIND g.T.Taker.stands_for c.word.new.self us) (words-first ws c.args.bytes.now c.read_u32.result (omega arith) c.read_u32.ensures) (c.in-Ok.ensures.stands ws stands)

pub returns-in-Err-clause-stands : goal.returns-in-Err-clause-stands
returns-in-Err-clause-stands g c = λ ws stands.
    subst (λ us. StandsFor g.T.Taker.KIND g.T.Taker.stands_for c.word.new.self us) (words-rest ws c.args.bytes.now 4)
    (StandsBy-append g.T.Taker.KIND _ c.word.new.self.state (ws ++ longwords (take 4 c.args.bytes.now)) _ c.in-Err.refusal c.in-Err.ensures.kept
    (subst (λ us. StandsFor g.T.Taker.KIND g.T.Taker.stands_for c.word.new.self us) (words-first ws c.args.bytes.now c.read_u32.result (omega arith) c.read_u32.ensures) (c.in-Err.ensures.stands ws stands)))
