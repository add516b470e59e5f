-- `grind` at once: `search`, which Rattle tries before it, is slow here
use Rattle.std.proofs.Common.{arith}
use Rattle.std.proofs.lemmas.Grind.{common_steps}
use Rattle.hunk_loader.proofs.image.Image.byte.Goals as goal

pub byte_at-byte-requires : goal.byte_at-byte-requires
byte_at-byte-requires g c = grind (arith, common_steps)

pub returns-then-is_some : goal.returns-then-is_some
returns-then-is_some g c = grind (arith, common_steps)

pub loop-hunk-preserved : goal.loop-hunk-preserved
loop-hunk-preserved g c = grind (arith, common_steps)

pub returns : goal.returns
returns g c = grind (arith, common_steps)
