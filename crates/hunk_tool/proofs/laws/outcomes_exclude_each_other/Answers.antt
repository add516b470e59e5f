use Rattle.hunk_tool.proofs.LawsLemmas.{not-placed-for-one, refused-begins-none, refused-for-one, reported-is-placed}
use Rattle.hunk_tool.proofs.laws.outcomes_exclude_each_other.Goals as goal

pub returns-clause-refused : goal.returns-clause-refused
returns-clause-refused c = refused-begins-none

pub returns-clause-one_refusal : goal.returns-clause-one_refusal
returns-clause-one_refusal c = refused-for-one

pub returns-clause-placed : goal.returns-clause-placed
returns-clause-placed c = reported-is-placed

pub returns-clause-one_place_fault : goal.returns-clause-one_place_fault
returns-clause-one_place_fault c = not-placed-for-one
