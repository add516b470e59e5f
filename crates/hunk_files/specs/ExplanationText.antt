-- The lines that explain the first offence of a file.
use Rattle.std.specs.Prelude.{ℕ, zero, suc, pred, ◌++◌, Bool, true, List, [], if◌then◌else◌, Option, Some, None, codes}
use Rattle.std.specs.Fmt.{decimal}
use Rattle.hunk_base.specs.Digits.{eight_digits}
use Rattle.hunk_base.specs.Text.{line}
use Rattle.hunk_words.specs.declared.due.Due.{Due}
use Rattle.hunk_words.specs.declared.due.Due.TheVariants as due_is
use Rattle.hunk_words.specs.declared.kinds.BlockType.{BlockType}
use Rattle.hunk_words.specs.declared.kinds.BlockType.TheVariants as block
use Rattle.hunk_words.specs.declared.kinds.HunkKind.TheVariants.{Code, Data, Bss}
use Rattle.hunk_words.specs.Kinds.{low, type_of}
use Rattle.hunk_base.specs.declared.fault.Reason.{Reason}
use Rattle.hunk_base.specs.declared.fault.Reason.TheVariants.{WrongStart}
use Rattle.hunk_files.specs.Path.{is_type}
use Rattle.hunk_files.specs.declared.explanation.Explanation.{Explanation}
use Rattle.hunk_files.specs.declared.explanation.Found.{Found}
use Rattle.hunk_files.specs.declared.explanation.Found.TheVariants.{Longword, End}
use Rattle.hunk_files.specs.declared.path.Path.{Path}

-- after how many bytes of a longword the file ends
abbrev pub ended_after : ℕ → List ℕ
ended_after zero = []
ended_after (suc count) = codes ", after " ++ decimal (suc count) ++ codes " of the 4 bytes of a longword"

abbrev pub end_text : ℕ → List ℕ
end_text count = codes "the end of the file" ++ ended_after count

-- what was found
abbrev pub found_text : Found → List ℕ
found_text (Longword word) = eight_digits word
found_text (End count) = end_text count

-- the unit, counted from 0; nothing in a load file
abbrev pub unit_number : ℕ → List ℕ
unit_number zero = []
unit_number (suc unit) = codes "unit " ++ decimal unit ++ codes ", "

abbrev pub unit_text : Path → List ℕ
unit_text path = unit_number path.units

abbrev pub hunk_place : ℕ → List ℕ
hunk_place number = codes "hunk " ++ decimal number ++ codes ", "

-- the hunk that a block is in, where so many hunks have ended; nothing before the first one
abbrev pub hunk_number : Option BlockType → ℕ → List ℕ
hunk_number None hunks = []
hunk_number (Some block.Unit) hunks = []
hunk_number (Some block.Header) hunks = []
hunk_number (Some block.End) hunks = hunk_place (pred hunks)
hunk_number (Some type) hunks = hunk_place hunks

abbrev pub hunk_text : Path → List ℕ
hunk_text path = hunk_number path.block path.hunks

-- after a block a type is due, or the end of the file
abbrev pub is_after : Due → Bool
is_after due_is.PastEnd = true
is_after due = is_type due

abbrev pub side_of : Option BlockType → Due → List ℕ
side_of None due = []
side_of (Some type) due = if is_after due then codes "after " else codes "in "

abbrev pub side_text : Path → Due → List ℕ
side_text path due = side_of path.block due

-- the names of doshunks.h
abbrev pub name_of : Option BlockType → List ℕ
name_of None = codes "start of the file"
name_of (Some block.Unit) = codes "HUNK_UNIT"
name_of (Some block.Name) = codes "HUNK_NAME"
name_of (Some (block.Content Code)) = codes "HUNK_CODE"
name_of (Some (block.Content Data)) = codes "HUNK_DATA"
name_of (Some (block.Content Bss)) = codes "HUNK_BSS"
name_of (Some block.Reloc) = codes "HUNK_RELOC32"
name_of (Some block.Ext) = codes "HUNK_EXT"
name_of (Some block.Symbol) = codes "HUNK_SYMBOL"
name_of (Some block.Debug) = codes "HUNK_DEBUG"
name_of (Some block.End) = codes "HUNK_END"
name_of (Some block.Header) = codes "HUNK_HEADER"
name_of (Some block.Short) = codes "HUNK_RELOC32SHORT"
name_of (Some block.Unsupported) = codes "a block"
name_of (Some block.Unknown) = codes "a block"

abbrev pub block_name : Path → List ℕ
block_name path = name_of path.block

-- what was due
abbrev pub due_text : Due → List ℕ
due_text due_is.ObjectStart = codes "HUNK_UNIT, which begins an object file"
due_text due_is.LoadStart = codes "HUNK_HEADER, which begins a load file"
due_text due_is.Resident = codes "0, the end of the resident library names"
due_text due_is.TableSize = codes "the number of hunks"
due_text due_is.FirstHunk = codes "0, the number of the first hunk"
due_text due_is.LastHunk = codes "the number of the last hunk"
due_text due_is.HeaderSize = codes "the size of a hunk and its memory"
due_text due_is.UnitType = codes "the type of a block that begins a hunk or a unit"
due_text due_is.HunkType = codes "the type of a block that begins a hunk"
due_text due_is.ContentType = codes "the type of a content block"
due_text due_is.BlockType = codes "the type of a block"
due_text due_is.PastEnd = codes "the end of the file"
due_text due_is.UnitLength = codes "the length of the unit's name"
due_text due_is.NameLength = codes "the length of the hunk's name"
due_text due_is.Word = codes "a longword of content, of a name or of a debug block"
due_text due_is.ContentSize = codes "the size of the content"
due_text due_is.RelocCount = codes "a count of relocations, or 0 after the last of them"
due_text due_is.HunkNumber = codes "the number of the hunk that relocations refer to"
due_text due_is.Offset = codes "the offset of a relocation"
due_text due_is.DebugLength = codes "the length of the debug block"
due_text due_is.SymbolEntry = codes "a symbol, or 0 after the last of them"
due_text due_is.ExtEntry = codes "an external symbol, or 0 after the last of them"
due_text due_is.Value = codes "the value of a symbol"
due_text due_is.RefCount = codes "a count of references"
due_text due_is.RefOffset = codes "the offset of a reference"
due_text due_is.ShortCount = codes "16-bit words, first a count of relocations"
due_text due_is.ShortHunk = codes "16-bit words, first the number of a hunk"
due_text due_is.ShortOffset = codes "16-bit words, first the offset of a relocation"
due_text due_is.ShortPad = codes "16-bit words, first a pad"

-- the line that tells the kind of a file that begins with a block of this type
abbrev pub first_type_text : BlockType → List ℕ
first_type_text block.Unit = codes "  kind: object file\n"
first_type_text block.Header = codes "  kind: load file\n"
first_type_text type = []

-- the line that tells the kind of a file that begins as one of the other kind does
abbrev pub kind_text : Reason → Found → List ℕ
kind_text WrongStart (Longword word) = first_type_text (type_of (low word))
kind_text reason found = []

-- four lines: where in bytes, what was found, in which unit, hunk and block, and what was due; and the
-- line that tells the other kind
abbrev pub explanation_text : Explanation → List ℕ
explanation_text e =
    line (codes "  at byte " ++ decimal e.offset ++ codes " (" ++ eight_digits e.offset ++ codes ")\n  found " ++ found_text e.found
    ++ codes "\n  path: " ++ unit_text e.path ++ hunk_text e.path ++ side_text e.path e.due ++ block_name e.path
    ++ codes "\n  due: " ++ due_text e.due)
    ++ kind_text e.fault.reason e.found
