-- The lines that hold the bytes of a hunk, row by row.
use Rattle.std.specs.Prelude.{ℕ, ◌+◌, ◌*◌, List, ◌++◌, length, take, drop, codes}
use Rattle.std.specs.Int.{div_ceil}
use Rattle.std.specs.List.{flat_map, range_with_len}
use Rattle.hex.specs.Hex.{encode_lower}
use Rattle.hunk_base.specs.Text.{line}
use Rattle.hunk_base.specs.Digits.{eight_digits}
use Rattle.hunk_image_text.specs.Record.{data_record}
use Rattle.hunk_image_text.specs.declared.image_form.ImageForm.{ImageForm}
use Rattle.hunk_image_text.specs.declared.image_form.ImageForm.TheVariants.{Report, SRecords}

-- bytes per row
abbrev pub row_size : ImageForm → ℕ
row_size Report = 16
row_size SRecords = 32

-- the line of a row of a report: the address of its first byte, and two digits per byte
abbrev pub report_line : ℕ → List ℕ → List ℕ
report_line address row = line (eight_digits address ++ codes " " ++ encode_lower row)

-- the line of a row, whose first byte is at the address
abbrev pub row_line : ImageForm → ℕ → List ℕ → List ℕ
row_line Report = report_line
row_line SRecords = data_record

-- how many bytes such a line has besides two for each byte of the row
abbrev pub line_overhead : ImageForm → ℕ
line_overhead Report = 10
line_overhead SRecords = 15

-- how long the line of a whole row is
abbrev pub longest_line : ImageForm → ℕ
longest_line form = line_overhead form + 2 * row_size form

-- the bytes of the row with that index; there are fewer in the last row if the hunk ends in it
abbrev pub row_of : ImageForm → List ℕ → ℕ → List ℕ
row_of form bytes index = take (row_size form) (drop (row_size form * index) bytes)

-- as many rows as hold all bytes, so none for an empty hunk
abbrev pub row_count : ImageForm → List ℕ → ℕ
row_count form bytes = div_ceil (length bytes) (row_size form)

-- the lines of the first `count` rows of a hunk
abbrev pub first_row_lines : ImageForm → ℕ → List ℕ → ℕ → List ℕ
first_row_lines form base bytes count =
    flat_map (λ index. row_line form (base + row_size form * index) (row_of form bytes index)) (range_with_len 0 count)

-- the lines of all its rows
abbrev pub row_lines : ImageForm → ℕ → List ℕ → List ℕ
row_lines form base bytes = first_row_lines form base bytes (row_count form bytes)
