use Rattle.hunk_survey.proofs.StrangerLemmas.{refused-begins_so}
use Rattle.hunk_survey.proofs.laws.a_hunk_file_begins_so.Goals as goal

pub returns : goal.returns
returns c = refused-begins_so
