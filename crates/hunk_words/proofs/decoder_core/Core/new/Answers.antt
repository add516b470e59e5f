-- Nothing was read.
use Rattle.std.proofs.Common.{[], ◌∷◌, ap, ◌∙◌}
use Rattle.hunk_words.specs.Reading.{start_of}
use Rattle.hunk_words.proofs.DecoderCoreLemmas.{StandsBy-begun}
use Rattle.hunk_words.proofs.decoder_core.Core.new.Goals as goal

pub returns-clause-stands : goal.returns-clause-stands
returns-clause-stands g c = StandsBy-begun _ _ c.initial_state.result (c.initial_state.ensures.file ∙ c.KIND.ensures) (c.initial_state.ensures.due ∙ ap (λ kind. start_of kind ∷ []) c.KIND.ensures) c.initial_state.ensures.is_state c.requires
