-- The lines about the units so far were put.
use Rattle.std.proofs.Common.{take}
use Rattle.std.specs.List.{enumerate_from, flat_map}
use Rattle.hunk_base.specs.Text.{Puts}
use Rattle.hunk_lint.specs.HunkLint.{unit_lints}
use Rattle.hunk_lint.proofs.hunk_lint.write_object_lints.Given as goal

abbrev pub invariant-loop-number : goal.invariant-loop-number
invariant-loop-number g l = Puts g.W.Sink.taken g.W.Sink.failed l.fn.text l.text (flat_map unit_lints (take l.number (enumerate_from 0 l.units)))
