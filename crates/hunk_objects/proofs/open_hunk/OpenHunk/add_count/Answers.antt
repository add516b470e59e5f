-- named, so that a mistake is refused without a look for advice
use Rattle.std.proofs.Common.{arith}
use Rattle.std.proofs.lemmas.Grind.{common_steps}
use Rattle.hunk_objects.proofs.open_hunk.OpenHunk.add_count.Goals as goal

pub returns-else-count-eq0-clause-takes : goal.returns-else-count-eq0-clause-takes
returns-else-count-eq0-clause-takes g c = grind (arith, common_steps)
