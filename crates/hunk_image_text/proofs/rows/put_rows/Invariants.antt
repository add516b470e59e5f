-- The lines of the rows so far are at the start, and there is room for as many of the longest
-- lines.
use Rattle.std.proofs.Common.{◌≡◌, ◌≤◌, ◌*◌, take}
use Rattle.hunk_image_text.specs.Rows.{first_row_lines, longest_line}
use Rattle.hunk_image_text.proofs.rows.put_rows.Given as goal

abbrev pub invariant-loop-index : goal.invariant-loop-index
invariant-loop-index l = record {
  room : l.end ≤ longest_line l.form * l.index;
  lines : take l.end l.lines ≡ first_row_lines l.form l.address l.block l.index;
}
