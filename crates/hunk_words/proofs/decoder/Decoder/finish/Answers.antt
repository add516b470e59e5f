-- The bytes held are those of an unfinished longword.
use Rattle.std.proofs.Common.{refl}
use Rattle.hunk_base.specs.Longwords.{longwords}
use Rattle.hunk_words.proofs.DecoderLemmas.{Finished-end}
use Rattle.hunk_words.proofs.decoder.Decoder.finish.Goals as goal

pub returns-clause-answer : goal.returns-clause-answer
returns-clause-answer g c = λ bytes stands.
    Finished-end _ _ c.args.self bytes c.rest.result c.end.result _ refl stands (λ none. c.rest.ensures.rest bytes (stands.held none)) (c.end.ensures.answer (longwords bytes) stands.core) c.end.ensures.again
