-- One more row.
use Rattle.std.proofs.Common.{ℕ, ◌+◌, ◌-◌, ◌<◌, ◌≤◌, ◌*◌, ◌++◌, length, sym, ap, ◌∙◌, arith}
use Rattle.std.proofs.lemmas.Grind.{common_steps}
use Rattle.std.proofs.lemmas.Slice.{take-put_mid}
use Rattle.std.specs.Int.{div_ceil}
use Rattle.hunk_image_text.specs.Rows.{first_row_lines, longest_line, row_count}
use Rattle.hunk_image_text.proofs.RowsLemmas.{first_row_lines-more, room-more, row-inside, row_line-between}
use Rattle.hunk_image_text.proofs.rows.put_rows.Goals as goal

pub loop-index-preserved : goal.loop-index-preserved
loop-index-preserved c =
    let form = c.args.form in
    let block = c.args.block.now in
    let index = c.loop-index.index in
    let size : ℕ = c.row_size-size.result in
    let before_end : index < div_ceil (length block) size = omega (arith, c.div_ceil-index-end.ensures, c.loop-index-test.true) in
    let before_last : index < row_count form block = rw c.row_size-size.ensures at before_end in
    let inside : size * index < length block = row-inside form (length block) index size c.row_size-size.ensures before_last in
    let last = room-more form index (row_count form block) before_last in
    let line = row_line-between form c.args.address block index size c.min-stop.result c.row_size-size.ensures c.min-stop.ensures (omega (arith, inside)) in
    let room : c.loop-index.end + c.line_overhead-overhead.result + 2 * (c.min-stop.result - size * index) ≤ longest_line form * (index + 1) =
    omega (arith, c.row_size-size.ensures, c.line_overhead-overhead.ensures, c.min-stop.ensures, c.loop-index.invariant.room) in
    record {
      room = room;
      lines =
          take-put_mid _ _ c.loop-index.lines c.put_row.new.line _ (omega (arith, last, room, c.requires.room)) (omega (arith, last, room, c.requires.room))
          ∙ ap (λ front. front ++ c.put_row.new.line) c.loop-index.invariant.lines
          ∙ ap (λ last. first_row_lines form c.args.address block index ++ last) (c.put_row.ensures ∙ line)
          ∙ sym (first_row_lines-more form c.args.address block index);
    }

-- `grind` at once: `search`, which Rattle tries before it, is slow here
pub overflow_mul-start : goal.overflow_mul-start
overflow_mul-start c = grind (arith, common_steps)

pub overflow_add-start : goal.overflow_add-start
overflow_add-start c = grind (arith, common_steps)

pub overflow_add-next : goal.overflow_add-next
overflow_add-next c = grind (arith, common_steps)

pub overflow_sub-next : goal.overflow_sub-next
overflow_sub-next c = grind (arith, common_steps)

pub overflow_add-next-in-loop-index : goal.overflow_add-next-in-loop-index
overflow_add-next-in-loop-index c = grind (arith, common_steps)

pub slice_bounds-put_row-end : goal.slice_bounds-put_row-end
slice_bounds-put_row-end c = grind (arith, common_steps)

pub overflow_cast-start : goal.overflow_cast-start
overflow_cast-start c = grind (arith, common_steps)

pub overflow_add-address : goal.overflow_add-address
overflow_add-address c = grind (arith, common_steps)

pub slice_bounds-put_row-count-in-loop-index : goal.slice_bounds-put_row-count-in-loop-index
slice_bounds-put_row-count-in-loop-index c = grind (arith, common_steps)

pub slice_bounds-put_row-start-in-loop-index : goal.slice_bounds-put_row-start-in-loop-index
slice_bounds-put_row-start-in-loop-index c = grind (arith, common_steps)

pub returns-clause-within : goal.returns-clause-within
returns-clause-within c = grind (arith, common_steps)
