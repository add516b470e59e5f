use Rattle.hunk_link.proofs.CarriedTargetsLemmas.{targets-ranks}
use Rattle.hunk_link.proofs.laws.targets_are_ranks.Goals as goal

pub returns : goal.returns
returns c = targets-ranks
