-- The symbols so far were put.
use Rattle.std.proofs.Common.{take}
use Rattle.std.specs.List.{flat_map}
use Rattle.hunk_base.specs.Name.{bytes_of}
use Rattle.hunk_base.specs.Text.{Puts}
use Rattle.hunk_loadfile.specs.WrittenForm.{symbol_words}
use Rattle.hunk_loadfile.proofs.debug_writer.write_each_symbol.Given as goal

abbrev pub invariant-loop-symbol : goal.invariant-loop-symbol
invariant-loop-symbol g l = Puts g.W.Sink.taken g.W.Sink.failed l.fn.text l.text (flat_map (λ symbol. bytes_of (symbol_words symbol)) (take l.symbol-index l.symbols))
