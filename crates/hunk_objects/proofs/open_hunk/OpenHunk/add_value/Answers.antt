-- named, so that a mistake is refused without a look for advice
use Rattle.std.proofs.Common.{arith}
use Rattle.std.proofs.lemmas.Grind.{common_steps}
use Rattle.hunk_objects.proofs.open_hunk.OpenHunk.add_value.Goals as goal

pub returns-in-Number-clause-takes : goal.returns-in-Number-clause-takes
returns-in-Number-clause-takes g c = grind (arith, common_steps)
