use Rattle.hunk_origins.proofs.OriginsLemmas.{hunks_are_of_origins}
use Rattle.hunk_origins.proofs.laws.hunks_are_of_origins.Goals as goal

pub returns : goal.returns
returns c = hunks_are_of_origins
