-- named, so that a mistake is refused without a look for advice
use Rattle.std.proofs.Common.{rules}
use Rattle.hunk_loadfile.proofs.load_hunk.LoadHunk.stored.Goals as goal

pub overflow_cast-result : goal.overflow_cast-result
overflow_cast-result g c = search rules

pub returns : goal.returns
returns g c = search rules
