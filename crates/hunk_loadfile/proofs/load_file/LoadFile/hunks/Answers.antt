-- named, so that a mistake is refused without a look for advice
use Rattle.std.proofs.Common.{rules}
use Rattle.hunk_loadfile.proofs.load_file.LoadFile.hunks.Goals as goal

pub returns-clause-value : goal.returns-clause-value
returns-clause-value g c = search rules
