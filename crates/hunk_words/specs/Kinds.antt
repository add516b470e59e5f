-- What may be expected at a place of a file.
--
-- Block types, layouts and entry types are those of The AmigaDOS Manual, 3rd edition, "Amiga binary
-- file structure"; the type 1020 is that of doshunks.h.
use Rattle.std.specs.Prelude.{ℕ, zero, suc, ◌*◌, ◌/◌, ◌%◌, ◌^◌, Bool, true, false, List, [], ◌∷◌, nat_le, ◌==◌, ◌&&◌, if◌then◌else◌}
use Rattle.hunk_words.specs.declared.kinds.HunkKind.{HunkKind}
use Rattle.hunk_words.specs.declared.kinds.HunkKind.TheVariants.{Code, Data, Bss}
use Rattle.hunk_words.specs.declared.kinds.Memory.{Memory}
use Rattle.hunk_words.specs.declared.kinds.Memory.TheVariants.{Any, Chip, Fast}
use Rattle.hunk_words.specs.declared.kinds.BlockType.{BlockType}
use Rattle.hunk_words.specs.declared.kinds.BlockType.TheVariants.{Unit as unit, Name as name, Content as content, Reloc as reloc, Ext as ext, Symbol as symbol, Debug as debug, End as end, Header as header, Short as short, Unsupported as unsupported, Unknown as unknown}
use Rattle.hunk_words.specs.declared.kinds.Half.{Half}
use Rattle.hunk_words.specs.declared.kinds.Half.TheVariants.{Upper as upper, Lower as lower}
use Rattle.hunk_words.specs.declared.kinds.EntryType.{EntryType}
use Rattle.hunk_words.specs.declared.kinds.EntryType.TheVariants.{Definition as definition, Absolute as absolute, Reference as reference, Other as other_entry}

-- Where a hunk is: in a unit; or in a load file, with the number of the last hunk and the size in
-- the header.
pub data Within : Type 0 where
  in_unit : Within
  in_load : (last size : ℕ) → Within

-- The memory bits of a content block, and its site limit: in a load file the memory is in the
-- header, and sites may lie in the zeros after the content.
abbrev pub content_bits : Within → ℕ → ℕ
content_bits in_unit b = b
content_bits (in_load last size) b = 0

abbrev pub site_limit : Within → ℕ → ℕ
site_limit in_unit n = 4 * n
site_limit (in_load last size) n = 4 * size

-- the other half
abbrev pub flip : Half → Half
flip upper = lower
flip lower = upper

-- the half n words later
abbrev pub half_after : ℕ → Half → Half
half_after zero h = h
half_after (suc n) h = half_after n (flip h)

-- What is expected. A kind carries what the table needs and what the next step reads: the hunk's
-- place, its site limit, how many are still to come, and in a load file's header what is left.
pub data Kind : Type 0 where
  -- types: at the start of a file, in a unit between hunks, in a load file between hunks, after a
  -- hunk's name, after content or a block
  object_start : Kind
  load_start : Kind
  unit_type : Kind
  hunk_type : (last size : ℕ) → Kind
  content_type : Within → Kind
  block_type : Within → (limit : ℕ) → Kind
  -- anything after the last END of a load file
  past_end : Kind
  -- the lengths of names; longwords of a name, of content or of a debug block; values of names
  unit_length : Kind
  name_length : Kind
  word : Kind
  value : Kind
  -- the size of CODE, DATA or BSS, with the memory bits of its type longword
  content_size : Within → HunkKind → (bits : ℕ) → Kind
  -- RELOC32: the count, the hunk number with the number of offsets after the first, an offset
  reloc_count : Within → (limit : ℕ) → Kind
  hunk_number : Within → (limit more : ℕ) → Kind
  offset : (limit target : ℕ) → Kind
  debug_length : Kind
  -- EXT: an entry, the count of an ext_ref32, its offsets
  ext_entry : (limit : ℕ) → Kind
  ref_count : (limit : ℕ) → Kind
  ref_offset : (limit : ℕ) → Kind
  symbol_entry : Kind
  -- the header: resident names, table size, first and last hunk, and the sizes, with the room that
  -- is left of 2^24, how many sizes follow this one, and the earlier sizes, the latest first
  resident : Kind
  table_size : Kind
  first_hunk : Kind
  last_hunk : (last : ℕ) → Kind
  header_size : (last room left : ℕ) → (sizes : List ℕ) → Kind
  -- the 16-bit words of RELOC32SHORT, as those of RELOC32, and the pad after an odd number of them
  short_count : Half → (last limit : ℕ) → Kind
  short_hunk : Half → (last limit more : ℕ) → Kind
  short_offset : Half → (limit target : ℕ) → Kind
  short_pad : Kind

-- a longword's low 30 bits, and the two above them
abbrev pub low : ℕ → ℕ
low n = n % 2 ^ 30

abbrev pub bits : ℕ → ℕ
bits n = n / 2 ^ 30

-- an entry's low 24 bits, and the eight above them
abbrev pub entry_length : ℕ → ℕ
entry_length n = n % 2 ^ 24

abbrev pub entry_type : ℕ → ℕ
entry_type n = n / 2 ^ 24

-- the types that are deliberately left out: overlays, libraries, and relocations of other widths or
-- bases
abbrev pub is_unsupported : ℕ → Bool
is_unsupported t = if t == 1005 then true else if t == 1006 then true else if t == 1021 then true else if t == 1022 then true else nat_le 1013 t && nat_le t 1019

-- what the table has for the number, or the last argument
abbrev pub lookup_or : {A : Type 0} → List (ℕ × A) → A → ℕ → A
lookup_or [] other t = other
lookup_or (row ∷ rows) other t = if t == row.0 then row.1 else lookup_or rows other t

abbrev pub block_types : List (ℕ × BlockType)
block_types = (999, unit) ∷ (1000, name) ∷ (1001, content Code) ∷ (1002, content Data) ∷ (1003, content Bss) ∷ (1004, reloc) ∷ (1007, ext) ∷ (1008, symbol) ∷ (1009, debug) ∷ (1010, end) ∷ (1011, header) ∷ (1020, short) ∷ []

unfoldable pub type_of : ℕ → BlockType
type_of t = lookup_or block_types (if is_unsupported t then unsupported else unknown) t

-- the type number of a content block, and the content type for a number
abbrev pub hunk_kind_number : HunkKind → ℕ
hunk_kind_number Code = 1001
hunk_kind_number Data = 1002
hunk_kind_number Bss = 1003

abbrev pub hunk_kind_of : ℕ → HunkKind
hunk_kind_of n = lookup_or ((1001, Code) ∷ (1002, Data) ∷ []) Bss n

-- what the two memory bits ask for; both together are rejected
abbrev pub memory_of : ℕ → Memory
memory_of zero = Any
memory_of (suc zero) = Chip
memory_of (suc (suc n)) = Fast

abbrev pub entry_types : List (ℕ × EntryType)
entry_types = (1, definition) ∷ (2, absolute) ∷ (129, reference) ∷ []

unfoldable pub entry_of : ℕ → EntryType
entry_of n = lookup_or entry_types other_entry (entry_type n)

abbrev pub is_entry : EntryType → Bool
is_entry other_entry = false
is_entry _ = true

-- ---- fields

-- a number of a file, with its kind
pub record Field : Type 0 where
  pub kind : Kind
  pub number : ℕ

abbrev pub field : Kind → ℕ → Field
field k n = record { kind = k; number = n }

-- a whole longword, or a half of one
pub data Width : Type 0 where
  long : Width
  half : Half → Width

abbrev pub width : Kind → Width
width (short_count h last limit) = half h
width (short_hunk h last limit more) = half h
width (short_offset h limit target) = half h
width short_pad = half lower
width _ = long

-- whether it is a half
abbrev pub is_half : Width → Bool
is_half long = false
is_half (half h) = true

abbrev pub bound : Width → ℕ
bound long = 2 ^ 32
bound (half h) = 2 ^ 16
