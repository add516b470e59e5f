use Rattle.hunk_loader.proofs.LoadingLemmas.{loaded-normal, sizes_of-normal}
use Rattle.hunk_loader.proofs.laws.normal_form_is_loaded.Goals as goal

pub returns-clause-memory : goal.returns-clause-memory
returns-clause-memory c = λ hunks bases. loaded-normal bases bases hunks

pub returns-clause-sizes : goal.returns-clause-sizes
returns-clause-sizes c = sizes_of-normal
