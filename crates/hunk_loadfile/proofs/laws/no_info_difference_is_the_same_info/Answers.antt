use Rattle.hunk_loadfile.proofs.InfoDifferenceLawLemmas.{no-info_difference}
use Rattle.hunk_loadfile.proofs.laws.no_info_difference_is_the_same_info.Goals as goal

pub returns : goal.returns
returns c = no-info_difference
