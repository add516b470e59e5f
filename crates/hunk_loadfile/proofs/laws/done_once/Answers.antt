use Rattle.hunk_loadfile.proofs.MeaningLemmas.{normal-once, stripped-once, stripped_and_trimmed-once, trimmed-once}
use Rattle.hunk_loadfile.proofs.laws.done_once.Goals as goal

pub returns-clause-stripped : goal.returns-clause-stripped
returns-clause-stripped c = stripped-once

pub returns-clause-trimmed : goal.returns-clause-trimmed
returns-clause-trimmed c = trimmed-once

pub returns-clause-both : goal.returns-clause-both
returns-clause-both c = stripped_and_trimmed-once

pub returns-clause-normal : goal.returns-clause-normal
returns-clause-normal c = normal-once
