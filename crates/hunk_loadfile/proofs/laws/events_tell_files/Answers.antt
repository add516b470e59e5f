use Rattle.hunk_loadfile.proofs.PartialLemmas.{partial-whole}
use Rattle.hunk_loadfile.proofs.laws.events_tell_files.Goals as goal

pub returns : goal.returns
returns c = partial-whole
