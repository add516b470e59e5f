use Rattle.hunk_tool.proofs.LawsLemmas.{outcome-exists}
use Rattle.hunk_tool.proofs.laws.an_outcome_exists.Goals as goal

pub returns : goal.returns
returns c = outcome-exists
