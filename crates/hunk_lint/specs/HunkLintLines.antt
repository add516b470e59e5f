-- What is wrong with a site or a symbol of a hunk: the lines about it, as lists of bytes.
use Rattle.std.specs.Prelude.{ℕ, ◌*◌, ◌%◌, ◌==◌, nat_le, nat_lt, Bool, if◌then◌else◌, List, [], ◌++◌, codes, Option, Some, None}
use Rattle.std.specs.Fmt.{decimal}
use Rattle.byteorder.specs.Endian.{big_from}
use Rattle.hunk_base.specs.Digits.{eight_digits}
use Rattle.hunk_base.specs.QuotedName.{quoted}
use Rattle.hunk_base.specs.Text.{line}
use Rattle.hunk_lint.specs.declared.hunk_lint_lines.HunkPlace.{HunkPlace}
use Rattle.hunk_lint.specs.declared.hunk_lint_lines.HunkPlace.TheVariants.{InLoad, InUnit}

-- ---- what is wrong with a site or a symbol

-- A 68000 cannot read a longword at this offset, since hunks are loaded at even addresses.
abbrev pub is_odd : ℕ → Bool
is_odd offset = offset % 2 == 1

-- An offset of a hunk of this many longwords lies past it. Its end is not past it.
abbrev pub is_past : (offset size : ℕ) → Bool
is_past offset size = nat_lt (4 * size) offset

-- the offset that a site has for the hunk whose base is added there: the longword at the site, in
-- which bytes past the content are zeros
abbrev pub pointed_to : (content : List ℕ) (site : ℕ) → ℕ
pointed_to content site = big_from site 4 content

-- ---- parts of lines

abbrev pub hunk_text : (number : ℕ) → List ℕ
hunk_text number = codes "hunk " ++ decimal number ++ codes ": "

-- the hunk that a line is about, which begins the line
abbrev pub place_text : HunkPlace → List ℕ
place_text (InLoad hunk) = hunk_text hunk
place_text (InUnit unit hunk) = codes "unit " ++ decimal unit ++ codes " " ++ hunk_text hunk

abbrev pub site_text : HunkPlace → (site : ℕ) → List ℕ
site_text place site = place_text place ++ codes "site " ++ eight_digits site

-- the size of a hunk, in bytes, which ends a line
abbrev pub bytes_text : (size : ℕ) → List ℕ
bytes_text size = codes ", which has " ++ decimal (4 * size) ++ codes " bytes"

-- ---- lines

abbrev pub odd_line : HunkPlace → (site : ℕ) → List ℕ
odd_line place site = line (site_text place site ++ codes " is at an odd offset")

-- the size is that of the target
abbrev pub past_line : HunkPlace → (site offset target size : ℕ) → List ℕ
past_line place site offset target size =
    line (site_text place site ++ codes " points to " ++ eight_digits offset ++ codes " of hunk " ++ decimal target ++ bytes_text size)

-- the unit has this many hunks
abbrev pub absent_line : HunkPlace → (site target count : ℕ) → List ℕ
absent_line place site target count =
    line (site_text place site ++ codes " adds hunk " ++ decimal target ++ codes ", and the unit has " ++ decimal count ++ codes " hunks")

abbrev pub symbol_line : HunkPlace → (size : ℕ) → List ℕ × ℕ → List ℕ
symbol_line place size symbol =
    line (place_text place ++ codes "symbol " ++ quoted symbol.0 ++ codes " " ++ eight_digits symbol.1 ++ codes " is past the hunk" ++ bytes_text size)

-- ---- when there is a line

abbrev pub odd_lints : HunkPlace → (site : ℕ) → List ℕ
odd_lints place site = if is_odd site then odd_line place site else []

-- of a site that adds the base of a hunk of this size, if there is the hunk
abbrev pub past_lints : HunkPlace → (content : List ℕ) (site target : ℕ) → Option ℕ → List ℕ
past_lints place content site target None = []
past_lints place content site target (Some size) =
    let offset = pointed_to content site in
    if is_past offset size then past_line place site offset target size else []

abbrev pub absent_lints : HunkPlace → (site target count : ℕ) → List ℕ
absent_lints place site target count = if nat_le count target then absent_line place site target count else []

abbrev pub symbol_lints : HunkPlace → (size : ℕ) → List ℕ × ℕ → List ℕ
symbol_lints place size symbol = if is_past symbol.1 size then symbol_line place size symbol else []
