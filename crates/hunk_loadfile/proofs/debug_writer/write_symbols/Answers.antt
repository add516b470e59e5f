-- The type, each symbol, and the end of the block.
use Rattle.std.proofs.Common.{subst, sym}
use Rattle.hunk_base.specs.Text.{Puts}
use Rattle.hunk_base.proofs.TextLemmas.{Puts-then}
use Rattle.hunk_loadfile.proofs.LongwordWriterLemmas.{symbols-bytes}
use Rattle.hunk_loadfile.proofs.debug_writer.write_symbols.Goals as goal

pub returns : goal.returns
returns g c =
    subst (λ text. Puts g.W.Sink.taken g.W.Sink.failed c.args.text.now c.write_longwords-2.new.text text) (sym (symbols-bytes c.args.symbols.now c.is_empty.result c.is_empty.ensures c.if-is_empty.false))
    (Puts-then g.W.Sink.taken g.W.Sink.failed c.write_longwords.ensures (Puts-then g.W.Sink.taken g.W.Sink.failed c.write_each_symbol.ensures c.write_longwords-2.ensures))
