use Rattle.hunk_loadfile.proofs.MeaningLemmas.{normal-means_the_same, stripped-means_the_same, trimmed-means_the_same}
use Rattle.hunk_loadfile.proofs.laws.meaning_is_kept.Goals as goal

pub returns-clause-stripped : goal.returns-clause-stripped
returns-clause-stripped c = stripped-means_the_same

pub returns-clause-trimmed : goal.returns-clause-trimmed
returns-clause-trimmed c = trimmed-means_the_same

pub returns-clause-normal : goal.returns-clause-normal
returns-clause-normal c = normal-means_the_same
