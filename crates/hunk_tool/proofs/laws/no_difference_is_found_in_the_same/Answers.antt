use Rattle.hunk_tool.proofs.CompareLawsLemmas.{nothing-told, same-has_the_same_info, same-means_the_same}
use Rattle.hunk_tool.proofs.laws.no_difference_is_found_in_the_same.Goals as goal

pub returns-clause-meaning : goal.returns-clause-meaning
returns-clause-meaning c = same-means_the_same

pub returns-clause-info : goal.returns-clause-info
returns-clause-info c = same-has_the_same_info

pub returns-clause-nothing : goal.returns-clause-nothing
returns-clause-nothing c = nothing-told
