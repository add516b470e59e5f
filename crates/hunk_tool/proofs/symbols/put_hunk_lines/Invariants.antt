-- The lines of the symbols so far were put.
use Rattle.std.proofs.Common.{take}
use Rattle.std.specs.List.{flat_map}
use Rattle.hunk_base.specs.Text.{Puts}
use Rattle.hunk_tool.specs.Symbols.{symbol_line}
use Rattle.hunk_tool.proofs.symbols.put_hunk_lines.Given as goal

abbrev pub invariant-loop-symbol : goal.invariant-loop-symbol
invariant-loop-symbol g l = Puts g.W.Sink.taken g.W.Sink.failed l.fn.text l.text (flat_map (symbol_line l.form l.number l.base) (take l.symbol-index l.symbols))
