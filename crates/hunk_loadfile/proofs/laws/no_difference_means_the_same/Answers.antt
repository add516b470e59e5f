use Rattle.hunk_loadfile.proofs.DifferenceLawLemmas.{no-difference}
use Rattle.hunk_loadfile.proofs.laws.no_difference_means_the_same.Goals as goal

pub returns : goal.returns
returns c = no-difference
