-- named, so that a mistake is refused without a look for advice
use Rattle.std.proofs.Common.{rules}
use Rattle.hunk_words.proofs.type_steps.content_type.Goals as goal

pub returns-in-Content-block : goal.returns-in-Content-block
returns-in-Content-block c = search rules
