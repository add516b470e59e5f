-- An error is kept.
use Rattle.hunk_words.proofs.DecoderCoreLemmas.{StandsBy-append, StandsBy-front}
use Rattle.hunk_words.proofs.decoder_core.Core.word.Goals as goal

pub returns-in-Some-clause-stands : goal.returns-in-Some-clause-stands
returns-in-Some-clause-stands g c = λ ws stands. StandsBy-append _ _ c.args.self.now.state ws _ c.in-Some.refusal c.in-Some.is stands

pub returns-in-None-refusal-clause-front : goal.returns-in-None-refusal-clause-front
returns-in-None-refusal-clause-front g c = λ ws stands. StandsBy-front _ _ c.advance-self.result ws c.in-None-refusal.is stands
