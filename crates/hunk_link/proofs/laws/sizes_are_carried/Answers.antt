use Rattle.hunk_link.proofs.CarriedLawsLemmas.{sizes-carried}
use Rattle.hunk_link.proofs.laws.sizes_are_carried.Goals as goal

pub returns : goal.returns
returns c = sizes-carried
