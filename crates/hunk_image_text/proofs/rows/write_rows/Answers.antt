-- One more block; after a failure the rest is left out.
use Rattle.std.proofs.Common.{◌*◌, ◌∙◌, sym, arith}
use Rattle.hunk_base.proofs.TextLemmas.{◌⨾◌, Puts-as, Puts-stopped}
use Rattle.hunk_image_text.proofs.RowsLemmas.{take-between}
use Rattle.hunk_image_text.proofs.RowBlocksLemmas.{lines_before-all, lines_before-more, lines_from, row_lines-around}
use Rattle.hunk_image_text.proofs.rows.write_rows.Goals as goal

pub loop-index-preserved : goal.loop-index-preserved
loop-index-preserved g c =
    let bytes = c.args.bytes.now in
    let index = c.loop-index.index in
    let block = take-between bytes (4096 * index) 4096 c.min-end.result c.min-end.ensures (omega arith) in
    Puts-as (sym (lines_before-more c.args.form c.args.base bytes index)) (c.loop-index.invariant ⨾ (rw block at c.write_block.ensures))

pub returns-then-is_stopped : goal.returns-then-is_stopped
returns-then-is_stopped g c =
    let bytes = c.args.bytes.now in
    let index = c.loop-index.index in
    let stopped = Puts-stopped g.W.Sink.taken g.W.Sink.failed c.loop-index.text (lines_from c.args.form c.args.base bytes index) (sym c.is_stopped.ensures ∙ c.if-is_stopped.true) in
    Puts-as (row_lines-around c.args.form c.args.base bytes index) (c.loop-index.invariant ⨾ stopped)

pub returns : goal.returns
returns g c = Puts-as (lines_before-all c.args.form c.args.base c.args.bytes.now c.loop-index.index (omega arith)) c.loop-index.invariant
