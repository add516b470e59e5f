-- `grind` at once: `search`, which Rattle tries before it, is slow here
use Rattle.std.proofs.Common.{arith}
use Rattle.std.proofs.lemmas.Grind.{common_steps}
use Rattle.hunk_objects.proofs.unit_hunk.UnitHunk.copy_symbols.Goals as goal

pub loop-name-preserved : goal.loop-name-preserved
loop-name-preserved g c = grind (arith, common_steps)

pub returns : goal.returns
returns g c = grind (arith, common_steps)
