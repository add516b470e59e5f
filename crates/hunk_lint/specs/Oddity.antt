-- What is odd about the longwords of a file: what its spelling has that its value does not keep.
--
-- Each longword stands with what was due there, and the longwords before it the latest first.
use Rattle.std.specs.Prelude.{ℕ, zero, suc, ◌/◌, ◌%◌, ◌^◌, ◌==◌, ◌&&◌, not, nat_le, nat_lt, Bool, true, false, List, [], ◌∷◌, ◌++◌, length, map, if◌then◌else◌, Option, Some, None, is_some, option_to_list, slice_index}
use Rattle.std.specs.List.{list_any}
use Rattle.hunk_base.specs.Name.{bytes_of}
use Rattle.hunk_words.specs.Kinds.{low, type_of}
use Rattle.hunk_words.specs.declared.due.Due.{Due}
use Rattle.hunk_words.specs.declared.due.Due.TheVariants as due_is
use Rattle.hunk_words.specs.declared.event.FileKind.{FileKind}
use Rattle.hunk_words.specs.declared.event.FileKind.TheVariants.{Object, Load}
use Rattle.hunk_words.specs.declared.kinds.BlockType.{BlockType}
use Rattle.hunk_words.specs.declared.kinds.BlockType.TheVariants as block_is
use Rattle.hunk_words.specs.declared.kinds.HunkKind.TheVariants.{Bss}
use Rattle.hunk_files.specs.Path.{hunks_ended, is_type, types_of}
use Rattle.hunk_files.specs.Watched.{is_content_size, latest_first}
use Rattle.hunk_lint.specs.declared.oddity.Oddity.{Oddity}
use Rattle.hunk_lint.specs.declared.oddity.Oddity.TheVariants as oddity_is
use Rattle.hunk_lint.specs.declared.oddity.LongwordLint.{LongwordLint}

-- ---- by itself

-- one of the two upper bits is set, which are not part of a type or a size
abbrev pub has_upper_bits : ℕ → Bool
has_upper_bits word = nat_le (2 ^ 30) word

-- the upper bits of the types of CODE, DATA and BSS of an object file are memory
abbrev pub has_memory : FileKind → BlockType → Bool
has_memory Object (block_is.Content content) = true
has_memory kind block = false

abbrev pub ignores_type_bits : FileKind → Due × ℕ → Bool
ignores_type_bits kind d = is_type d.0 && has_upper_bits d.1 && not (has_memory kind (type_of (low d.1)))

abbrev pub is_name : BlockType → Bool
is_name block_is.Name = true
is_name block = false

-- only load files have it due that a hunk begins
abbrev pub begins_load_hunk : Due → Bool
begins_load_hunk due_is.HunkType = true
begins_load_hunk due = false

abbrev pub names_load_hunk : Due × ℕ → Bool
names_load_hunk d = begins_load_hunk d.0 && is_name (type_of (low d.1))

abbrev pub is_header_size : Due → Bool
is_header_size due_is.HeaderSize = true
is_header_size due = false

abbrev pub ignores_size_bits : Due × ℕ → Bool
ignores_size_bits d = is_content_size d.0 && has_upper_bits d.1

abbrev pub counts_references : Due → Bool
counts_references due_is.RefCount = true
counts_references due = false

abbrev pub has_no_references : Due × ℕ → Bool
has_no_references d = counts_references d.0 && d.1 == 0

-- a count of relocations, 32 bits or the upper half of a longword, is 0
abbrev pub is_no_count : Due → ℕ → Bool
is_no_count due_is.RelocCount word = word == 0
is_no_count due_is.ShortCount word = nat_lt word (2 ^ 16)
is_no_count due word = false

abbrev pub counts_none : Due × ℕ → Bool
counts_none d = is_no_count d.0 d.1

-- ---- by the longwords before

-- the block that the last longword begins
abbrev pub begun : List (Due × ℕ) → Option BlockType
begun [] = None
begun (d ∷ before) = if is_type d.0 then Some (type_of (low d.1)) else None

-- the first count of a relocation block
abbrev pub has_no_offsets : List (Due × ℕ) → Due × ℕ → Bool
has_no_offsets before d = is_some (begun before) && counts_none d

-- the sizes in a load file's header, in order
abbrev pub header_sizes : List (Due × ℕ) → List ℕ
header_sizes [] = []
header_sizes (d ∷ before) = if is_header_size d.0 then header_sizes before ++ low d.1 ∷ [] else header_sizes before

-- the size in the header of the hunk that goes on after these longwords
abbrev pub size_in_header : List (Due × ℕ) → ℕ
size_in_header before = slice_index (header_sizes before) (hunks_ended (types_of before))

abbrev pub is_bss : Option BlockType → Bool
is_bss (Some (block_is.Content Bss)) = true
is_bss block = false

-- the size of a BSS block of a load file is not the one in the header
abbrev pub has_other_size : FileKind → List (Due × ℕ) → Due × ℕ → Bool
has_other_size Object before d = false
has_other_size Load before d = is_content_size d.0 && is_bss (begun before) && not (low d.1 == size_in_header before)

-- The hunk that a group of relocations names here. One of 16 bits is the lower half after a count, or the
-- upper half.
abbrev pub hunk_named : Due → ℕ → Option ℕ
hunk_named due_is.HunkNumber word = Some word
hunk_named due_is.ShortCount word = if nat_lt word (2 ^ 16) then None else Some (word % 2 ^ 16)
hunk_named due_is.ShortHunk word = Some (word / 2 ^ 16)
hunk_named due word = None

-- the hunks that the groups so far of a relocation block name, the latest first
abbrev pub hunks_named : List (Due × ℕ) → List ℕ
hunks_named [] = []
hunks_named (d ∷ before) = if is_type d.0 then [] else option_to_list (hunk_named d.0 d.1) ++ hunks_named before

abbrev pub has_number : List ℕ → ℕ → Bool
has_number numbers number = list_any (λ other. other == number) numbers

-- the hunk, if it is one of these
abbrev pub if_named : List ℕ → Option ℕ → Option ℕ
if_named numbers None = None
if_named numbers (Some hunk) = if has_number numbers hunk then Some hunk else None

-- the hunk of a second group of a relocation block for the same hunk
abbrev pub named_again : List (Due × ℕ) → Due × ℕ → Option ℕ
named_again before d = if_named (hunks_named before) (hunk_named d.0 d.1)

-- the longwords so far of the name that goes on after this one, which follows such a name or none
abbrev pub name_after : Due → ℕ → Option (List ℕ) → Option (List ℕ)
name_after due_is.UnitLength word name = Some []
name_after due_is.NameLength word name = Some []
name_after due_is.SymbolEntry word name = Some []
name_after due_is.ExtEntry word name = Some []
name_after due_is.Word word (Some words) = Some (words ++ word ∷ [])
name_after due word name = None

-- those of the name that goes on after these longwords, if one does
abbrev pub name_so_far : List (Due × ℕ) → Option (List ℕ)
name_so_far [] = None
name_so_far (d ∷ before) = name_after d.0 d.1 (name_so_far before)

-- one of the bytes is not zero
abbrev pub has_nonzero : List ℕ → Bool
has_nonzero [] = false
has_nonzero (zero ∷ bytes) = has_nonzero bytes
has_nonzero (suc byte ∷ bytes) = true

-- one after their first zero byte is not zero
abbrev pub ends_early : List ℕ → Bool
ends_early [] = false
ends_early (zero ∷ bytes) = has_nonzero bytes
ends_early (suc byte ∷ bytes) = ends_early bytes

-- so it is with the bytes of the name
abbrev pub ignores_bytes : Option (List ℕ) → Bool
ignores_bytes None = false
ignores_bytes (Some words) = ends_early (bytes_of words)

-- with this longword of a name it is, and without it it was not
abbrev pub ignores_name_bytes : List (Due × ℕ) → Due × ℕ → Bool
ignores_name_bytes before d = ignores_bytes (name_so_far (d ∷ before)) && not (ignores_bytes (name_so_far before))

-- ---- all of it

abbrev pub told_if : Bool → Oddity → List Oddity
told_if odd oddity = if odd then oddity ∷ [] else []

abbrev pub told_again : Option ℕ → List Oddity
told_again None = []
told_again (Some hunk) = oddity_is.SameHunk hunk ∷ []

-- what is odd about a longword, after these
abbrev pub odd_at : FileKind → List (Due × ℕ) → Due × ℕ → List Oddity
odd_at kind before d =
    told_if (ignores_type_bits kind d) oddity_is.TypeBits
    ++ told_if (names_load_hunk d) oddity_is.HunkName
    ++ told_if (ignores_size_bits d) oddity_is.SizeBits
    ++ told_if (has_other_size kind before d) oddity_is.BssSize
    ++ told_if (has_no_offsets before d) oddity_is.NoOffsets
    ++ told_again (named_again before d)
    ++ told_if (has_no_references d) oddity_is.NoReferences
    ++ told_if (ignores_name_bytes before d) oddity_is.NameBytes

abbrev pub lint_at : ℕ → Oddity → LongwordLint
lint_at place oddity = record { place = place; oddity = oddity }

-- what is odd about all of them, each at its place from 0, in order
abbrev pub lints_of : FileKind → List (Due × ℕ) → List LongwordLint
lints_of kind [] = []
lints_of kind (d ∷ before) = lints_of kind before ++ map (lint_at (length before)) (odd_at kind before d)

abbrev pub longword_lints : FileKind → List ℕ → List LongwordLint
longword_lints kind ws = lints_of kind (latest_first kind ws)
