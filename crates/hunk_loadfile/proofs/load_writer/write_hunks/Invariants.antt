-- The hunks so far were put.
use Rattle.std.proofs.Common.{length, take}
use Rattle.std.specs.List.{flat_map}
use Rattle.hunk_base.specs.Name.{bytes_of}
use Rattle.hunk_base.specs.Text.{Puts}
use Rattle.hunk_loadfile.specs.WrittenForm.{hunk_words}
use Rattle.hunk_loadfile.proofs.load_writer.write_hunks.Given as goal

abbrev pub invariant-loop-hunk : goal.invariant-loop-hunk
invariant-loop-hunk g l = Puts g.W.Sink.taken g.W.Sink.failed l.fn.text l.text (flat_map (λ hunk. bytes_of (hunk_words l.form (length l.hunks) hunk)) (take l.hunk-index l.hunks))
