-- named, so that a mistake is refused without a look for advice
use Rattle.std.proofs.Common.{rules}
use Rattle.hunk_base.proofs.digits.Digits.hexadecimal.Goals as goal

pub returns-clause-value : goal.returns-clause-value
returns-clause-value c = search rules
