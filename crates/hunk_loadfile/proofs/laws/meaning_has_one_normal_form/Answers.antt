use Rattle.hunk_loadfile.proofs.NormalMeaningLemmas.{one-normal_form}
use Rattle.hunk_loadfile.proofs.laws.meaning_has_one_normal_form.Goals as goal

pub returns : goal.returns
returns c = one-normal_form
