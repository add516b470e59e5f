-- named, so that a mistake is refused without a look for advice
use Rattle.std.proofs.Common.{rules}
use Rattle.hunk_words.proofs.decoder_core.refused.Goals as goal

pub returns : goal.returns
returns c = search rules
