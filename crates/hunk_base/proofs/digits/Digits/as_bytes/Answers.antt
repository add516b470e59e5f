-- named, so that a mistake is refused without a look for advice
use Rattle.std.proofs.Common.{arith}
use Rattle.std.proofs.lemmas.Grind.{common_steps}
use Rattle.hunk_base.proofs.digits.Digits.as_bytes.Goals as goal

pub returns : goal.returns
returns c = grind (arith, common_steps)
