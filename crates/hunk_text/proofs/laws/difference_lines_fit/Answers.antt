use Rattle.hunk_text.proofs.DifferenceSizeLemmas.{difference-fits}
use Rattle.hunk_text.proofs.InfoDifferenceSizeLemmas.{info_difference-fits}
use Rattle.hunk_text.proofs.laws.difference_lines_fit.Goals as goal

pub returns-clause-meaning : goal.returns-clause-meaning
returns-clause-meaning c = difference-fits

pub returns-clause-info : goal.returns-clause-info
returns-clause-info c = info_difference-fits
