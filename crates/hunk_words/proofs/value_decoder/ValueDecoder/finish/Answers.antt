use Rattle.std.proofs.Common.{ap, sym, subst, ◌∙◌}
use Rattle.hunk_words.specs.Decoder.{StandsFor, refusal_of}
use Rattle.hunk_words.proofs.DecoderRefusalLemmas.{refuses-input}
use Rattle.hunk_words.proofs.value_decoder.ValueDecoder.finish.Goals as goal

pub into_value-requires : goal.into_value-requires
into_value-requires g c = (c.self.invariant.0, c.in-Ok.ensures.answer c.self.invariant.0 c.self.invariant.1)

pub returns-in-Ok-clause-file : goal.returns-in-Ok-clause-file
returns-in-Ok-clause-file g c = λ bytes stands.
    c.into_value.ensures bytes (c.in-Ok.ensures.answer bytes (subst (λ d. StandsFor g.B.Taker.KIND g.B.Taker.stands_for d bytes) (sym c.self.view_is) stands))

pub returns-in-Ok-clause-again : goal.returns-in-Ok-clause-again
returns-in-Ok-clause-again g c = λ refusal e. let wrong = c.in-Ok.ensures.again refusal (ap (λ d. refusal_of d) c.self.view_is ∙ e) in cc

pub returns-in-Err-clause-refused : goal.returns-in-Err-clause-refused
returns-in-Err-clause-refused g c = λ bytes stands.
    refuses-input g.B.Taker.KIND g.B.Taker.stands_for bytes c.in-Err.refusal (c.in-Err.ensures.answer bytes (subst (λ d. StandsFor g.B.Taker.KIND g.B.Taker.stands_for d bytes) (sym c.self.view_is) stands))

pub returns-in-Err-clause-again : goal.returns-in-Err-clause-again
returns-in-Err-clause-again g c = λ refusal e. let same = c.in-Err.ensures.again refusal (ap (λ d. refusal_of d) c.self.view_is ∙ e) in cc

pub returns-in-Err-clause-memory : goal.returns-in-Err-clause-memory
returns-in-Err-clause-memory g c = λ e. ap (λ d. refusal_of d) (sym c.self.view_is) ∙ c.in-Err.ensures.memory cc
