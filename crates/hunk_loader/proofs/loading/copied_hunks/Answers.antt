-- `grind` at once: `search`, which Rattle tries before it, is slow here
use Rattle.std.proofs.Common.{arith}
use Rattle.std.proofs.lemmas.Grind.{common_steps}
use Rattle.hunk_loader.proofs.loading.copied_hunks.Goals as goal

pub loop-number-init : goal.loop-number-init
loop-number-init g c = grind (arith, common_steps)

pub copied_bytes-requires : goal.copied_bytes-requires
copied_bytes-requires g c = grind (arith, common_steps)

pub push_reserved-requires : goal.push_reserved-requires
push_reserved-requires g c = grind (arith, common_steps)

pub loop-number-preserved : goal.loop-number-preserved
loop-number-preserved g c = grind (arith, common_steps)

pub returns : goal.returns
returns g c = grind (arith, common_steps)
