-- The lines of what is odd about a file.
use Rattle.std.specs.Prelude.{ℕ, ◌++◌, List, [], codes}
use Rattle.std.specs.Fmt.{decimal}
use Rattle.std.specs.List.{flat_map}
use Rattle.hunk_base.specs.Text.{line}
use Rattle.hunk_files.specs.FileValue.{FileValue}
use Rattle.hunk_files.specs.FileValue.FileValue.{object_file, load_file}
use Rattle.hunk_lint.specs.HunkLint.{load_lints, object_lints}
use Rattle.hunk_lint.specs.declared.oddity.LongwordLint.{LongwordLint}
use Rattle.hunk_lint.specs.declared.oddity.Oddity.{Oddity}
use Rattle.hunk_lint.specs.declared.oddity.Oddity.TheVariants as oddity_is

-- what is odd, up to a number that follows
abbrev pub oddity_front : Oddity → List ℕ
oddity_front oddity_is.TypeBits = codes "the upper bits of the type are ignored"
oddity_front oddity_is.HunkName = codes "the name of a hunk of a load file is ignored"
oddity_front oddity_is.SizeBits = codes "the upper bits of the size are ignored"
oddity_front oddity_is.BssSize = codes "the size of the BSS block is not the one in the header, which counts"
oddity_front oddity_is.NoOffsets = codes "a relocation block without offsets"
oddity_front (oddity_is.SameHunk hunk) = codes "a second group of relocations for hunk "
oddity_front oddity_is.NoReferences = codes "a reference without offsets is ignored"
oddity_front oddity_is.NameBytes = codes "bytes after a zero byte of the name are ignored"

abbrev pub oddity_number : Oddity → List ℕ
oddity_number (oddity_is.SameHunk hunk) = decimal hunk
oddity_number oddity = []

abbrev pub oddity_text : Oddity → List ℕ
oddity_text oddity = oddity_front oddity ++ oddity_number oddity

-- the line of what is odd about a longword, with its place from 0
abbrev pub longword_line : LongwordLint → List ℕ
longword_line lint = line (codes "longword " ++ decimal lint.place ++ codes ": " ++ oddity_text lint.oddity)

-- the lines about the hunks of a file
abbrev pub value_lints : FileValue → List ℕ
value_lints (object_file units) = object_lints units
value_lints (load_file hunks) = load_lints hunks

-- the lines about the longwords of a file, and then about its hunks
abbrev pub lint_lines : List LongwordLint → FileValue → List ℕ
lint_lines lints value = flat_map longword_line lints ++ value_lints value
