use Rattle.hunk_link.proofs.CarriedLawsLemmas.{carried-accepted}
use Rattle.hunk_link.proofs.laws.carried_is_accepted.Goals as goal

pub returns : goal.returns
returns c = carried-accepted
