-- named, so that a mistake is refused without a look for advice
use Rattle.std.proofs.Common.{rules}
use Rattle.hunk_link.proofs.addend.Addend.of_name.Goals as goal

pub returns-in-Absolute : goal.returns-in-Absolute
returns-in-Absolute c = search rules

pub returns-in-At : goal.returns-in-At
returns-in-At c = search rules
