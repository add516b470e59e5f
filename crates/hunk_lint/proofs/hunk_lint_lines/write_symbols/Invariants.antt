-- The lines about the symbols so far were put.
use Rattle.std.proofs.Common.{take}
use Rattle.std.specs.List.{flat_map}
use Rattle.hunk_base.specs.Text.{Puts}
use Rattle.hunk_lint.specs.HunkLintLines.{symbol_lints}
use Rattle.hunk_lint.proofs.hunk_lint_lines.write_symbols.Given as goal

abbrev pub invariant-loop-symbol : goal.invariant-loop-symbol
invariant-loop-symbol g l = Puts g.W.Sink.taken g.W.Sink.failed l.fn.text l.text (flat_map (symbol_lints l.place l.size) (take l.symbol-index l.symbols))
