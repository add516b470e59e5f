-- One more symbol.
use Rattle.hunk_base.proofs.TextLemmas.{Puts-more}
use Rattle.hunk_lint.specs.HunkLintLines.{symbol_lints}
use Rattle.hunk_lint.proofs.hunk_lint_lines.write_symbols.Goals as goal

pub loop-symbol-preserved : goal.loop-symbol-preserved
loop-symbol-preserved g c =
    let symbol = c.symbol-item.result in
    Puts-more g.W.Sink.taken g.W.Sink.failed (symbol_lints c.args.place c.args.size) c.args.symbols.now c.loop-symbol.symbol-index symbol symbol c.loop-symbol-test.true c.symbol-item.is c.loop-symbol.invariant c.write_symbol.ensures
