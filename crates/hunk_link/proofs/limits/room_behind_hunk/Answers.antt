-- `grind` at once: `search`, which Rattle tries before it, is slow here
use Rattle.std.proofs.Common.{rules, arith}
use Rattle.std.proofs.lemmas.Grind.{common_steps}
use Rattle.hunk_link.proofs.limits.room_behind_hunk.Goals as goal

pub returns-in_ok-carried : goal.returns-in_ok-carried
returns-in_ok-carried g c = grind (rules, arith, common_steps)
