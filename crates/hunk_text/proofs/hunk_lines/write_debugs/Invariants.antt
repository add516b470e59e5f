-- The lines of the debug blocks so far were put.
use Rattle.std.proofs.Common.{take}
use Rattle.std.specs.List.{flat_map}
use Rattle.hunk_base.specs.Text.{Puts}
use Rattle.hunk_text.specs.Listing.{debug_line}
use Rattle.hunk_text.proofs.hunk_lines.write_debugs.Given as goal

abbrev pub invariant-loop-words : goal.invariant-loop-words
invariant-loop-words g l = Puts g.W.Sink.taken g.W.Sink.failed l.fn.text l.text (flat_map (λ words. debug_line words.items) (take l.words-index l.debugs))
