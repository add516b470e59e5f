-- The text of an image: which bytes it has, and where.
use Rattle.std.specs.Prelude.{ℕ, ◌+◌, ◌^◌, ◌≤◌, List, [], ◌++◌, length, codes}
use Rattle.std.specs.Fmt.{decimal}
use Rattle.std.specs.List.{enumerate_from, flat_map}
use Rattle.hunk_base.specs.Text.{line}
use Rattle.hunk_base.specs.Digits.{eight_digits}
use Rattle.hunk_image_text.specs.Record.{end_record, header_record}
use Rattle.hunk_image_text.specs.Rows.{row_lines}
use Rattle.hunk_image_text.specs.declared.image_form.ImageForm.{ImageForm}
use Rattle.hunk_image_text.specs.declared.image_form.ImageForm.TheVariants.{Report, SRecords}

-- the first line of a hunk of a report: its number, its base and its size in bytes
abbrev pub hunk_line : (number base size : ℕ) → List ℕ
hunk_line number base size =
    line (codes "hunk " ++ decimal number ++ codes " at " ++ eight_digits base ++ codes " size " ++ decimal size)

-- what comes before the rows of a hunk: only a report tells where one begins
abbrev pub hunk_heading : ImageForm → (number base size : ℕ) → List ℕ
hunk_heading Report number base size = hunk_line number base size
hunk_heading SRecords number base size = []

-- all lines of a hunk
abbrev pub hunk_lines : ImageForm → (number base : ℕ) → List ℕ → List ℕ
hunk_lines form number base bytes = hunk_heading form number base (length bytes) ++ row_lines form base bytes

-- the same for a hunk with its number
abbrev pub numbered_lines : ImageForm → ℕ × (ℕ × List ℕ) → List ℕ
numbered_lines form hunk = hunk_lines form hunk.0 hunk.1.0 hunk.1.1

-- what comes before the first hunk: only S-records have a header
abbrev pub opening : ImageForm → List ℕ
opening Report = []
opening SRecords = header_record

-- what comes after the last hunk
abbrev pub closing : ImageForm → List ℕ
closing Report = []
closing SRecords = end_record

-- the lines of the hunks of an image, each a base and its bytes, numbered from 0
abbrev pub all_hunk_lines : ImageForm → List (ℕ × List ℕ) → List ℕ
all_hunk_lines form hunks = flat_map (numbered_lines form) (enumerate_from 0 hunks)

-- the text of an image with these hunks
abbrev pub image_text : ImageForm → List (ℕ × List ℕ) → List ℕ
image_text form hunks = opening form ++ (all_hunk_lines form hunks ++ closing form)

-- the last byte of a hunk has an address
abbrev pub EndsInside : ℕ × List ℕ → Type 0
EndsInside hunk = hunk.0 + length hunk.1 ≤ 2 ^ 32
