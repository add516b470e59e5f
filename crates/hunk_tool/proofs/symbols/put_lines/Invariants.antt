-- The lines of the hunks so far were put.
use Rattle.std.proofs.Common.{take}
use Rattle.std.specs.List.{enumerate_from, flat_map}
use Rattle.hunk_base.specs.Text.{Puts}
use Rattle.hunk_tool.specs.Symbols.{hunk_symbol_lines}
use Rattle.hunk_tool.proofs.symbols.put_lines.Given as goal

abbrev pub invariant-loop-number : goal.invariant-loop-number
invariant-loop-number g l = Puts g.W.Sink.taken g.W.Sink.failed l.fn.text l.text (flat_map (hunk_symbol_lines l.form l.bases) (take l.number (enumerate_from 0 l.hunks)))
