use Rattle.hunk_loadfile.proofs.LoadFileLemmas.{one-load}
use Rattle.hunk_loadfile.proofs.laws.longwords_tell_load_file.Goals as goal

pub returns : goal.returns
returns c = one-load
