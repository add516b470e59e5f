-- One more symbol.
use Rattle.hunk_base.proofs.TextLemmas.{Puts-more}
use Rattle.hunk_tool.specs.Symbols.{symbol_line}
use Rattle.hunk_tool.proofs.symbols.put_hunk_lines.Goals as goal

pub loop-symbol-preserved : goal.loop-symbol-preserved
loop-symbol-preserved g c =
    Puts-more g.W.Sink.taken g.W.Sink.failed (symbol_line c.args.form c.args.number c.args.base) c.args.symbols.now c.loop-symbol.symbol-index c.symbol-item.result c.symbol-item.result
    c.loop-symbol-test.true c.symbol-item.is c.loop-symbol.invariant c.put_line.ensures
