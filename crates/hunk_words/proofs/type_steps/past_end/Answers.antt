-- named, so that a mistake is refused without a look for advice
use Rattle.std.proofs.Common.{rules}
use Rattle.hunk_words.proofs.type_steps.past_end.Goals as goal

pub returns-else-is_unsupported : goal.returns-else-is_unsupported
returns-else-is_unsupported c = search rules
