use Rattle.hunk_loadfile.proofs.WrittenFormLengthLemmas.{written_in-is_short}
use Rattle.hunk_loadfile.proofs.laws.written_is_short.Goals as goal

pub returns : goal.returns
returns c = written_in-is_short
