-- One of the names.
use Rattle.std.proofs.Common.{◌≤◌, ℕ, List, length, sym, subst}
use Rattle.hunk_base.specs.Name.{bytes_of, most_name}
use Rattle.hunk_base.proofs.TextLemmas.{Puts-more}
use Rattle.hunk_loadfile.specs.WrittenForm.{symbol_words}
use Rattle.hunk_loadfile.proofs.debug_writer.write_each_symbol.Goals as goal

pub write_symbol-requires : goal.write_symbol-requires
write_symbol-requires g c =
    subst (λ (s : List ℕ × ℕ). length s.0 ≤ most_name) (sym c.symbol-item.is) (c.requires c.loop-symbol.symbol-index c.symbol-item.result c.loop-symbol-test.true)

pub loop-symbol-preserved : goal.loop-symbol-preserved
loop-symbol-preserved g c =
    Puts-more g.W.Sink.taken g.W.Sink.failed (λ symbol. bytes_of (symbol_words symbol)) c.args.symbols.now c.loop-symbol.symbol-index
    c.symbol-item.result c.symbol-item.result c.loop-symbol-test.true c.symbol-item.is c.loop-symbol.invariant c.write_symbol.ensures
