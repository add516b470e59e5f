use Rattle.hunk_tool.proofs.CopyLawsLemmas.{copied-once}
use Rattle.hunk_tool.proofs.laws.copied_once.Goals as goal

pub returns : goal.returns
returns c = copied-once
