-- `grind` at once: `search`, which Rattle tries before it, is slow here
use Rattle.std.proofs.Common.{arith}
use Rattle.std.proofs.lemmas.Grind.{common_steps}
use Rattle.hunk_objects.proofs.program_unit.hunk_total.Goals as goal

pub overflow_add-total : goal.overflow_add-total
overflow_add-total g c = grind (arith, common_steps)

pub loop-unit-preserved : goal.loop-unit-preserved
loop-unit-preserved g c = grind (arith, common_steps)

pub returns : goal.returns
returns g c = grind (arith, common_steps)
