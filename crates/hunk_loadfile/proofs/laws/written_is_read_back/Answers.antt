use Rattle.hunk_loadfile.proofs.WrittenFormLemmas.{written_in-is_load}
use Rattle.hunk_loadfile.proofs.laws.written_is_read_back.Goals as goal

pub returns : goal.returns
returns c = written_in-is_load
