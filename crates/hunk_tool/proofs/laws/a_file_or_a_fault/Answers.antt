use Rattle.hunk_tool.proofs.FileLawsLemmas.{fault-is-one, faulty-is-no-file, file-has-one-value, file-or-fault}
use Rattle.hunk_tool.proofs.laws.a_file_or_a_fault.Goals as goal

pub returns-clause-either : goal.returns-clause-either
returns-clause-either c = file-or-fault

pub returns-clause-never_both : goal.returns-clause-never_both
returns-clause-never_both c = faulty-is-no-file

pub returns-clause-one_value : goal.returns-clause-one_value
returns-clause-one_value c = file-has-one-value

pub returns-clause-one_fault : goal.returns-clause-one_fault
returns-clause-one_fault c = fault-is-one
