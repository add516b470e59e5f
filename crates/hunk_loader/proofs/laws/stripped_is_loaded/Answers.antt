use Rattle.hunk_loader.proofs.LoadingLemmas.{loaded-stripped, sizes_of-stripped}
use Rattle.hunk_loader.proofs.laws.stripped_is_loaded.Goals as goal

pub returns-clause-memory : goal.returns-clause-memory
returns-clause-memory c = λ hunks bases. loaded-stripped bases bases hunks

pub returns-clause-sizes : goal.returns-clause-sizes
returns-clause-sizes c = sizes_of-stripped
