-- named, so that a mistake is refused without a look for advice
use Rattle.std.proofs.Common.{rules}
use Rattle.hunk_words.proofs.step.step.Goals as goal

pub returns-in-RelocCount : goal.returns-in-RelocCount
returns-in-RelocCount c = search rules
