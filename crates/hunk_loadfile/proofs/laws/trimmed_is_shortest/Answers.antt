use Rattle.hunk_loadfile.proofs.TrimmingLemmas.{trimmed-zeros, trimmed-shortest}
use Rattle.hunk_loadfile.proofs.laws.trimmed_is_shortest.Goals as goal

pub returns-clause-zeros : goal.returns-clause-zeros
returns-clause-zeros c = trimmed-zeros

pub returns-clause-shortest : goal.returns-clause-shortest
returns-clause-shortest c = trimmed-shortest
