-- The lines of the symbols, and then those of the debug blocks.
use Rattle.hunk_base.proofs.TextLemmas.{Puts-then}
use Rattle.hunk_text.proofs.hunk_lines.write_debug_lines.Goals as goal

pub returns : goal.returns
returns g c = Puts-then g.W.Sink.taken g.W.Sink.failed c.write_symbols.ensures c.write_debugs.ensures
