use Rattle.hunk_tool.proofs.CopyLawsLemmas.{copy-is_load, copy-is_one_load}
use Rattle.hunk_tool.proofs.laws.a_copy_is_read_back.Goals as goal

pub returns-clause-file : goal.returns-clause-file
returns-clause-file c = copy-is_load

pub returns-clause-one_file : goal.returns-clause-one_file
returns-clause-one_file c = copy-is_one_load
