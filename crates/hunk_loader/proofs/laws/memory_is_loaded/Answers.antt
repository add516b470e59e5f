use Rattle.hunk_loader.proofs.ImageLemmas.{hunk-loaded, nothing-loaded}
use Rattle.hunk_loader.proofs.laws.memory_is_loaded.Goals as goal

pub returns-clause-bytes : goal.returns-clause-bytes
returns-clause-bytes c = hunk-loaded

pub returns-clause-nothing_else : goal.returns-clause-nothing_else
returns-clause-nothing_else c = nothing-loaded
