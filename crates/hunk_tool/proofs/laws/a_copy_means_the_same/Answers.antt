use Rattle.hunk_tool.proofs.CopyLawsLemmas.{copy-has_sizes, copy-is_loaded, copy-means_the_same}
use Rattle.hunk_tool.proofs.laws.a_copy_means_the_same.Goals as goal

pub returns-clause-meaning : goal.returns-clause-meaning
returns-clause-meaning c = copy-means_the_same

pub returns-clause-memory : goal.returns-clause-memory
returns-clause-memory c = copy-is_loaded

pub returns-clause-sizes : goal.returns-clause-sizes
returns-clause-sizes c = copy-has_sizes
