-- The lines of the hunks so far were put.
use Rattle.hunk_base.specs.Text.{Puts}
use Rattle.hunk_loader.specs.Image.{hunks_of}
use Rattle.hunk_image_text.proofs.ImageTextLemmas.{first_hunk_lines}
use Rattle.hunk_image_text.proofs.image_text.write_hunks.Given as goal

abbrev pub invariant-loop-number : goal.invariant-loop-number
invariant-loop-number g l = Puts g.W.Sink.taken g.W.Sink.failed l.fn.text l.text (first_hunk_lines l.form (hunks_of l.hunks) l.number)
