use Rattle.std.proofs.Common.{sym, ◌∙◌}
use Rattle.hunk_loadfile.proofs.FirstDifferenceLemmas.{hunk_difference-head}
use Rattle.hunk_loadfile.proofs.difference.hunk_difference.Goals as goal

pub returns-then-is_some : goal.returns-then-is_some
returns-then-is_some g c = hunk_difference-head c.args.number c.args.first.now c.args.second.now c.head_difference-difference.result c.head_difference-difference.ensures (sym c.is_some.ensures ∙ c.if-is_some.true)
