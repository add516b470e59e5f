use Rattle.hunk_tool.proofs.HeadlineLemmas.{linked-is-reported, reports-agree}
use Rattle.hunk_tool.proofs.laws.linked_is_reported.Goals as goal

pub returns-clause-reported : goal.returns-clause-reported
returns-clause-reported c = linked-is-reported

pub returns-clause-one_report : goal.returns-clause-one_report
returns-clause-one_report c = reports-agree
