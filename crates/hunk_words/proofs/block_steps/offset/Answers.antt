-- named, so that a mistake is refused without a look for advice
use Rattle.std.proofs.Common.{rules}
use Rattle.hunk_words.proofs.block_steps.offset.Goals as goal

pub returns : goal.returns
returns c = search rules
