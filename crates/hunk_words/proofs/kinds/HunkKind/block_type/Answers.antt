-- named, so that a mistake is refused without a look for advice
use Rattle.std.proofs.Common.{rules}
use Rattle.hunk_words.proofs.kinds.HunkKind.block_type.Goals as goal

pub returns-in-Code : goal.returns-in-Code
returns-in-Code c = search rules
