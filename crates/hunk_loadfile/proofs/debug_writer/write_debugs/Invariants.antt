-- The debug blocks so far were put.
use Rattle.std.proofs.Common.{take}
use Rattle.std.specs.List.{flat_map}
use Rattle.hunk_base.specs.Name.{bytes_of}
use Rattle.hunk_base.specs.Text.{Puts}
use Rattle.hunk_loadfile.specs.WrittenForm.{debug_words}
use Rattle.hunk_loadfile.proofs.debug_writer.write_debugs.Given as goal

abbrev pub invariant-loop-debug : goal.invariant-loop-debug
invariant-loop-debug g l = Puts g.W.Sink.taken g.W.Sink.failed l.fn.text l.text (flat_map (λ debug. bytes_of (debug_words debug.items)) (take l.debug-index l.debugs))
