use Rattle.std.proofs.Common.{sym, ◌∙◌}
use Rattle.hunk_loadfile.specs.Difference.{with_bytes}
use Rattle.hunk_loadfile.proofs.FirstDifferenceLemmas.{hunk_difference-head}
use Rattle.hunk_loadfile.proofs.difference.hunk_difference_with.Goals as goal

pub returns-then-is_some : goal.returns-then-is_some
returns-then-is_some g c = λ content is. hunk_difference-head c.args.number c.args.first.now (with_bytes c.args.second.now content) c.head_difference-difference.result c.head_difference-difference.ensures (sym c.is_some.ensures ∙ c.if-is_some.true)
