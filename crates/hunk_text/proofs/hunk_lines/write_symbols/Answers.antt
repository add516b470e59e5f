-- The line of one symbol more.
use Rattle.hunk_base.proofs.TextLemmas.{Puts-more}
use Rattle.hunk_text.specs.Listing.{symbol_line}
use Rattle.hunk_text.proofs.hunk_lines.write_symbols.Goals as goal

pub loop-symbol-preserved : goal.loop-symbol-preserved
loop-symbol-preserved g c =
    Puts-more g.W.Sink.taken g.W.Sink.failed symbol_line c.args.symbols.now c.loop-symbol.symbol-index c.symbol-item.result c.symbol-item.result c.loop-symbol-test.true c.symbol-item.is
    c.loop-symbol.invariant c.write_symbol.ensures
