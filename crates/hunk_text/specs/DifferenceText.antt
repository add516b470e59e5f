-- The lines that tell where two load files differ, as lists of bytes.
use Rattle.std.specs.Prelude.{ℕ, ◌*◌, ◌==◌, if◌then◌else◌, List, [], ◌∷◌, ◌++◌, codes, slice_get, Option, Some, None}
use Rattle.std.specs.Cmp.Lexicographic.{pointwise}
use Rattle.std.specs.Fmt.{decimal}
use Rattle.hex.specs.Hex.{encode_lower}
use Rattle.hunk_base.specs.Digits.{eight_digits}
use Rattle.hunk_base.specs.QuotedName.{quoted}
use Rattle.hunk_base.specs.Text.{line}
use Rattle.hunk_loadfile.specs.LoadHunk.{FileHunk}
use Rattle.hunk_loadfile.specs.declared.difference.Difference.{Difference}
use Rattle.hunk_loadfile.specs.declared.difference.Difference.TheVariants.{HunkCount, Kind, Memory, Size, Byte, Site}
use Rattle.hunk_loadfile.specs.declared.info_difference.InfoDifference.{InfoDifference}
use Rattle.hunk_loadfile.specs.declared.info_difference.InfoDifference.TheVariants.{Symbol, Debug}
use Rattle.hunk_text.specs.Listing.{adds_hunk, kind_word, memory_word}

-- what the first file has, and what the second one has
abbrev pub both : List ℕ → List ℕ → List ℕ
both first second = first ++ codes " and " ++ second

-- ---- what files mean

-- two lower-case hexadecimal digits
abbrev pub two_digits : ℕ → List ℕ
two_digits byte = encode_lower (byte ∷ [])

-- the hunk whose base is added, if there is a site
abbrev pub target_text : Option ℕ → List ℕ
target_text (Some hunk) = adds_hunk hunk
target_text None = codes "none"

-- sizes are told in bytes
abbrev pub difference_text : Difference → List ℕ
difference_text (HunkCount first second) = codes "hunks: " ++ both (decimal first) (decimal second)
difference_text (Kind hunk first second) = adds_hunk hunk ++ codes " kind: " ++ both (kind_word first) (kind_word second)
difference_text (Memory hunk first second) =
    adds_hunk hunk ++ codes " memory: " ++ both (memory_word first) (memory_word second)
difference_text (Size hunk first second) =
    adds_hunk hunk ++ codes " size: " ++ both (decimal (4 * first)) (decimal (4 * second))
difference_text (Byte hunk offset first second) =
    adds_hunk hunk ++ codes " offset " ++ eight_digits offset ++ codes ": " ++ both (two_digits first) (two_digits second)
difference_text (Site hunk offset first second) =
    adds_hunk hunk ++ codes " site " ++ eight_digits offset ++ codes ": " ++ both (target_text first) (target_text second)

abbrev pub difference_line : Difference → List ℕ
difference_line difference = line (difference_text difference)

-- ---- what only debuggers read

-- a symbol of a hunk, if there are the hunk and the symbol
abbrev pub symbol_of : Option FileHunk → ℕ → Option (List ℕ × ℕ)
symbol_of (Some hunk) index = slice_get hunk.symbols index
symbol_of None index = None

abbrev pub symbol_at : List FileHunk → (hunk index : ℕ) → Option (List ℕ × ℕ)
symbol_at hunks hunk index = symbol_of (slice_get hunks hunk) index

-- The values, where the names are the same.
abbrev pub unlike_symbols : List ℕ × ℕ → List ℕ × ℕ → List ℕ
unlike_symbols first second =
    if pointwise ◌==◌ first.0 second.0
    then quoted first.0 ++ codes " " ++ both (eight_digits first.1) (eight_digits second.1)
    else both (quoted first.0) (quoted second.0)

-- nothing where neither file has the symbol
abbrev pub symbols_text : Option (List ℕ × ℕ) → Option (List ℕ × ℕ) → List ℕ
symbols_text (Some first) (Some second) = unlike_symbols first second
symbols_text (Some first) None = quoted first.0 ++ codes " " ++ eight_digits first.1 ++ codes " and none"
symbols_text None (Some second) = quoted second.0 ++ codes " none and " ++ eight_digits second.1
symbols_text None None = []

-- where two files differ, by the hunks of the first and the symbol that the second has there
abbrev pub info_difference_told : List FileHunk → Option (List ℕ × ℕ) → InfoDifference → List ℕ
info_difference_told first symbol (Symbol hunk index) =
    adds_hunk hunk ++ codes " symbol " ++ decimal index ++ codes ": " ++ symbols_text (symbol_at first hunk index) symbol
info_difference_told first symbol (Debug hunk index) = adds_hunk hunk ++ codes " debug " ++ decimal index

-- where the files with these hunks differ
abbrev pub info_difference_text : List FileHunk → List FileHunk → InfoDifference → List ℕ
info_difference_text first second (Symbol hunk index) =
    adds_hunk hunk ++ codes " symbol " ++ decimal index ++ codes ": "
    ++ symbols_text (symbol_at first hunk index) (symbol_at second hunk index)
info_difference_text first second (Debug hunk index) = adds_hunk hunk ++ codes " debug " ++ decimal index

abbrev pub info_difference_line : List FileHunk → List FileHunk → InfoDifference → List ℕ
info_difference_line first second difference = line (info_difference_text first second difference)
