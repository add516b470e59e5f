-- The machine: what is expected is a stack of kinds, and each number removes the top one and pushes
-- what it makes expected. What a file is, is defined without it, by trees and their spelling; the
-- machine is a means of the proofs, and what a state of the decoder stands for.
use Rattle.std.specs.Prelude.{◌≡◌, ℕ, zero, suc, pred, ◌-◌, ◌^◌, List, [], ◌∷◌}
use Rattle.hunk_words.specs.Kinds.{Within, Kind, Field, low, bits, entry_length, entry_of, type_of, flip, half_after, content_bits, site_limit}
use Rattle.hunk_words.specs.FaultTable.{Passes}
use Rattle.hunk_words.specs.declared.kinds.Half.{Half}
use Rattle.hunk_words.specs.declared.kinds.EntryType.{EntryType}
use Rattle.hunk_words.specs.declared.kinds.HunkKind.{HunkKind}
use Rattle.hunk_words.specs.declared.kinds.BlockType.{BlockType}
use Rattle.hunk_words.specs.declared.kinds.EntryType.TheVariants.{Reference as reference}
use Rattle.hunk_words.specs.declared.kinds.HunkKind.TheVariants.{Bss}
use Rattle.hunk_words.specs.declared.kinds.BlockType.TheVariants.{Unit as unit, Name as name, Content as content, Reloc as reloc, Ext as ext, Symbol as symbol, Debug as debug, Short as short}
use Rattle.hunk_words.specs.Kinds.Within.{in_unit, in_load}
use Rattle.hunk_words.specs.declared.kinds.Half.TheVariants.{Upper as upper, Lower as lower}
use Rattle.hunk_words.specs.Kinds.Kind.{object_start, load_start, unit_type, hunk_type, content_type, block_type, past_end, unit_length, name_length, word, value, content_size, reloc_count, hunk_number, offset, debug_length, ext_entry, ref_count, ref_offset, symbol_entry, resident, table_size, first_hunk, last_hunk, header_size, short_count, short_hunk, short_offset, short_pad}

-- n times the kind
abbrev pub times : ℕ → Kind → List Kind → List Kind
times zero k stack = stack
times (suc n) k stack = k ∷ times n k stack

-- n offsets in halves, from this half on
abbrev pub short_times : ℕ → Half → ℕ → ℕ → List Kind → List Kind
short_times zero h limit target stack = stack
short_times (suc n) h limit target stack = short_offset h limit target ∷ short_times n (flip h) limit target stack

-- the first list reversed, and then the second
abbrev pub reverse_onto : List ℕ → List ℕ → List ℕ
reverse_onto [] xs = xs
reverse_onto (a ∷ others) xs = reverse_onto others (a ∷ xs)

abbrev pub hunks_due : ℕ → List ℕ → List Kind → List Kind
hunks_due last [] stack = stack
hunks_due last (size ∷ sizes) stack = hunk_type last size ∷ hunks_due last sizes stack

-- what a type longword makes expected
abbrev pub unit_part : BlockType → ℕ → List Kind → List Kind
unit_part unit b stack = unit_length ∷ unit_type ∷ stack
unit_part name b stack = name_length ∷ content_type in_unit ∷ unit_type ∷ stack
unit_part (content c) b stack = content_size in_unit c b ∷ unit_type ∷ stack
unit_part _ b stack = stack

abbrev pub hunk_part : Within → BlockType → ℕ → List Kind → List Kind
hunk_part w name b stack = name_length ∷ content_type w ∷ stack
hunk_part w (content c) b stack = content_size w c (content_bits w b) ∷ stack
hunk_part w _ b stack = stack

abbrev pub block_part : Within → ℕ → BlockType → List Kind → List Kind
block_part w limit reloc stack = reloc_count w limit ∷ block_type w limit ∷ stack
block_part w limit ext stack = ext_entry limit ∷ block_type w limit ∷ stack
block_part w limit symbol stack = symbol_entry ∷ block_type w limit ∷ stack
block_part w limit debug stack = debug_length ∷ block_type w limit ∷ stack
block_part (in_load last size) limit short stack = short_count upper last limit ∷ block_type (in_load last size) limit ∷ stack
block_part w limit _ stack = stack

abbrev pub content_part : Within → HunkKind → ℕ → List Kind → List Kind
content_part w Bss n stack = block_type w (site_limit w 0) ∷ stack
content_part w _ n stack = times n word (block_type w (site_limit w n) ∷ stack)

-- what comes after the name of an EXT entry
abbrev pub entry_tail : ℕ → EntryType → Kind
entry_tail limit reference = ref_count limit
entry_tail limit _ = value

-- an EXT entry of this type, with a name of n longwords
abbrev pub entry_part : ℕ → EntryType → ℕ → List Kind → List Kind
entry_part limit type n stack = times n word (entry_tail limit type ∷ ext_entry limit ∷ stack)

-- What replaces the kind on the stack s, once the number has passed.
abbrev pub push : Kind → ℕ → List Kind → List Kind
push object_start n stack = unit_length ∷ unit_type ∷ stack
push load_start n stack = resident ∷ table_size ∷ stack
push unit_type n stack = unit_part (type_of (low n)) (bits n) stack
push (hunk_type last size) n stack = hunk_part (in_load last size) (type_of (low n)) (bits n) stack
push (content_type w) n stack = hunk_part w (type_of (low n)) (bits n) stack
push (block_type w limit) n stack = block_part w limit (type_of (low n)) stack
push past_end n stack = stack
push unit_length n stack = times n word stack
push name_length n stack = times n word stack
push word n stack = stack
push value n stack = stack
push (content_size w c b) n stack = content_part w c (low n) stack
push (reloc_count w limit) zero stack = stack
push (reloc_count w limit) (suc n) stack = hunk_number w limit n ∷ reloc_count w limit ∷ stack
push (hunk_number w limit n) target stack = offset limit target ∷ times n (offset limit target) stack
push (offset limit target) n stack = stack
push debug_length n stack = times n word stack
push (ext_entry limit) zero stack = stack
push (ext_entry limit) (suc n) stack = entry_part limit (entry_of (suc n)) (entry_length (suc n)) stack
push (ref_count limit) n stack = times n (ref_offset limit) stack
push (ref_offset limit) n stack = stack
push symbol_entry zero stack = stack
push symbol_entry (suc n) stack = word ∷ times n word (value ∷ symbol_entry ∷ stack)
push resident n stack = stack
push table_size n stack = first_hunk ∷ last_hunk (pred n) ∷ header_size (pred n) (2 ^ 24) (pred n) [] ∷ stack
push first_hunk n stack = stack
push (last_hunk last) n stack = stack
push (header_size last room zero sizes) n stack = hunks_due last (reverse_onto (low n ∷ sizes) []) stack
push (header_size last room (suc left) sizes) n stack = header_size last (room - low n) left (low n ∷ sizes) ∷ stack
push (short_count upper last limit) zero stack = short_pad ∷ stack
push (short_count lower last limit) zero stack = stack
push (short_count h last limit) (suc n) stack = short_hunk (flip h) last limit n ∷ short_count (half_after (suc n) h) last limit ∷ stack
push (short_hunk h last limit n) target stack = short_times (suc n) (flip h) limit target stack
push (short_offset h limit target) n stack = stack
push short_pad n stack = stack

abbrev pub due : List Kind → Kind
due [] = past_end
due (k ∷ stack) = k

abbrev pub next : List Kind → ℕ → List Kind
next [] n = []
next (k ∷ stack) n = push k n stack

-- Where the file may end. An object file may continue after it.
abbrev pub IsComplete : List Kind → Type 0
IsComplete [] = Unit {0}
IsComplete (unit_type ∷ []) = Unit {0}
IsComplete _ = ⊥

-- From the first stack the machine takes the fields, each labelled with the kind that is expected,
-- and what is expected after them is the second.
abbrev pub Takes : List Kind → List Field → List Kind → Type 0
Takes stack [] after = stack ≡ after
Takes [] (f ∷ fs) after = ⊥
Takes (k ∷ stack) (f ∷ fs) after = (f.kind ≡ k) × Passes k f.number × Takes (push k f.number stack) fs after
