-- named, so that a mistake is refused without a look for advice
use Rattle.std.proofs.Common.{rules}
use Rattle.hunk_words.proofs.type_steps.next_block.Goals as goal

pub returns-in-Short : goal.returns-in-Short
returns-in-Short c = search rules
