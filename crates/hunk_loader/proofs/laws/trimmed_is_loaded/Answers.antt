use Rattle.hunk_loader.proofs.LoadingLemmas.{loaded-trimmed, sizes_of-trimmed}
use Rattle.hunk_loader.proofs.laws.trimmed_is_loaded.Goals as goal

pub returns-clause-memory : goal.returns-clause-memory
returns-clause-memory c = λ hunks bases. loaded-trimmed bases bases hunks

pub returns-clause-sizes : goal.returns-clause-sizes
returns-clause-sizes c = sizes_of-trimmed
