use Rattle.hunk_loadfile.proofs.ShortNumbersLemmas.{short_numbers-fit}
use Rattle.hunk_loadfile.proofs.laws.short_numbers_fit.Goals as goal

pub returns : goal.returns
returns c = short_numbers-fit
