-- `grind` at once: `search`, which Rattle tries before it, is slow here
use Rattle.std.proofs.Common.{arith}
use Rattle.std.proofs.lemmas.Grind.{common_steps}
use Rattle.hunk_origins.proofs.defined_names.DefinedNames.of_hunks.Goals as goal

pub loop-origin-preserved : goal.loop-origin-preserved
loop-origin-preserved g c = grind (arith, common_steps)

pub returns : goal.returns
returns g c = grind (arith, common_steps)
