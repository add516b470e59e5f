use Rattle.hunk_commands.proofs.KnownFilesLemmas.{no_device_fails}
use Rattle.hunk_commands.proofs.laws.no_device_fails.Goals as goal

pub returns : goal.returns
returns c = no_device_fails
