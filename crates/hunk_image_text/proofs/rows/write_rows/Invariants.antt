-- The rows of the blocks so far were put.
use Rattle.hunk_base.specs.Text.{Puts}
use Rattle.hunk_image_text.proofs.RowBlocksLemmas.{lines_before}
use Rattle.hunk_image_text.proofs.rows.write_rows.Given as goal

abbrev pub invariant-loop-index : goal.invariant-loop-index
invariant-loop-index g l = Puts g.W.Sink.taken g.W.Sink.failed l.fn.text l.text (lines_before l.form l.base l.bytes l.index)
