use Rattle.hunk_loadfile.proofs.NormalMeaningLemmas.{normal-shortest}
use Rattle.hunk_loadfile.proofs.laws.normal_form_is_shortest.Goals as goal

pub returns : goal.returns
returns c = normal-shortest
