use Rattle.hunk_tool.proofs.CopyLawsLemmas.{normal_bytes-tell_meaning}
use Rattle.hunk_tool.proofs.laws.normal_bytes_tell_the_meaning.Goals as goal

pub returns : goal.returns
returns c = normal_bytes-tell_meaning
