-- named, so that a mistake is refused without a look for advice
use Rattle.std.proofs.Common.{rules}
use Rattle.hunk_commands.proofs.load.load_to.Goals as goal

pub returns-in-Image-clause-ok : goal.returns-in-Image-clause-ok
returns-in-Image-clause-ok g c = search rules

pub returns-in-Image-clause-ended : goal.returns-in-Image-clause-ended
returns-in-Image-clause-ended g c = search rules
