-- named, so that a mistake is refused without a look for advice
use Rattle.std.proofs.Common.{rules}
use Rattle.hunk_survey.proofs.digest.normal_digest.Goals as goal

pub returns : goal.returns
returns g c = search rules
