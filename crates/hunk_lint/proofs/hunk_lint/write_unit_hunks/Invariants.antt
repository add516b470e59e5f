-- The lines about the hunks so far were put.
use Rattle.std.proofs.Common.{take}
use Rattle.std.specs.List.{enumerate_from, flat_map}
use Rattle.hunk_base.specs.Text.{Puts}
use Rattle.hunk_lint.specs.HunkLint.{unit_hunk_lints}
use Rattle.hunk_lint.proofs.hunk_lint.write_unit_hunks.Given as goal

abbrev pub invariant-loop-number : goal.invariant-loop-number
invariant-loop-number g l = Puts g.W.Sink.taken g.W.Sink.failed l.fn.text l.text (flat_map (unit_hunk_lints l.hunks l.unit) (take l.number (enumerate_from 0 l.hunks)))
