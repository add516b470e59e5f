-- named, so that a mistake is refused without a look for advice
use Rattle.std.proofs.Common.{rules}
use Rattle.hunk_link.proofs.addend.addend_of.Goals as goal

pub returns-in-Hunk : goal.returns-in-Hunk
returns-in-Hunk c = search rules
