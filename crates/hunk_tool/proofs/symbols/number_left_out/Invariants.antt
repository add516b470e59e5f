-- The symbols of the hunks so far whose names no line can hold.
use Rattle.std.proofs.Common.{◌≡◌, sum_by, take}
use Rattle.hunk_tool.specs.Symbols.{unheld_in}
use Rattle.hunk_tool.proofs.symbols.number_left_out.Given as goal

abbrev pub invariant-loop-hunk : goal.invariant-loop-hunk
invariant-loop-hunk g l = l.count ≡ sum_by unheld_in (take l.hunk-index l.hunks)
