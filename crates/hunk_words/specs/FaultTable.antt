-- The one table of faults: which numbers pass where they are expected, and the reason for the
-- others.
--
-- What passes is that of The AmigaDOS Manual, 3rd edition, "Amiga binary file structure"; own where
-- a comment says so.
use Rattle.std.specs.Prelude.{◌≡◌, ℕ, zero, suc, ◌<◌, Bool, true, false, Option, Some, None, List, [], ◌∷◌, nat_lt, nat_le, ◌==◌, ◌&&◌, if◌then◌else◌}
use Rattle.hunk_words.specs.declared.kinds.BlockType.{BlockType}
use Rattle.hunk_words.specs.declared.kinds.BlockType.TheVariants.{Unit as unit, Name as name, Content as content, Reloc as reloc, Ext as ext, Symbol as symbol, Debug as debug, End as end, Short as short, Unsupported as unsupported, Unknown as unknown}
use Rattle.hunk_base.specs.declared.fault.Reason.{Reason}
use Rattle.hunk_base.specs.declared.fault.Reason.TheVariants.{WrongStart, UnknownType, MisplacedType, UnsupportedBlock, UnsupportedExt, BothMemoryBits, ResidentNames, HunkTable, TooLarge, ContentTooLong, NoSuchHunk, SymbolKind, TrailingData}
use Rattle.hunk_words.specs.Kinds.{Within, Kind, Field, low, bits, entry_type, is_unsupported, type_of, entry_of, is_entry, width, bound}
use Rattle.hunk_words.specs.Kinds.Within.{in_unit, in_load}
use Rattle.hunk_words.specs.Kinds.Kind.{object_start, load_start, unit_type, hunk_type, content_type, block_type, past_end, unit_length, name_length, word, value, content_size, reloc_count, hunk_number, offset, debug_length, ext_entry, ref_count, ref_offset, symbol_entry, resident, table_size, first_hunk, last_hunk, header_size, short_count, short_hunk, short_offset, short_pad}

-- passes if the check holds
abbrev pub reject_unless : Bool → Reason → Option Reason
reject_unless true reason = None
reject_unless false reason = Some reason

-- The rule for types. 1020 is known in a load file after the header (own: in an object file it is
-- not a type).
abbrev pub refused_type : Bool → BlockType → ℕ → Reason
refused_type known unsupported t = UnsupportedBlock t
refused_type known unknown t = UnknownType t
refused_type true short t = MisplacedType t
refused_type false short t = UnknownType t
refused_type known _ t = MisplacedType t

abbrev pub knows_short : Within → Bool
knows_short in_unit = false
knows_short (in_load last size) = true

abbrev pub begins_in_unit : BlockType → Bool
begins_in_unit unit = true
begins_in_unit name = true
begins_in_unit (content c) = true
begins_in_unit _ = false

abbrev pub begins_in_load : BlockType → Bool
begins_in_load name = true
begins_in_load (content c) = true
begins_in_load _ = false

abbrev pub is_content : BlockType → Bool
is_content (content c) = true
is_content _ = false

abbrev pub may_follow : Within → BlockType → Bool
may_follow w reloc = true
may_follow w symbol = true
may_follow w debug = true
may_follow w end = true
may_follow in_unit ext = true
may_follow (in_load last size) short = true
may_follow w _ = false

-- The memory bits of a content block's type longword in a unit: chip and fast together would ask for a further
-- longword of flags, which is left out.
abbrev pub memory_judged : BlockType → ℕ → Option Reason
memory_judged (content c) n = reject_unless (nat_lt (bits n) 3) BothMemoryBits
memory_judged _ n = None

abbrev pub and_then : Option Reason → Option Reason → Option Reason
and_then None second = second
and_then (Some reason) second = Some reason

-- The table of faults: for each kind, the reason of a number that doesn't pass. The rules for sites
-- are separate: an offset always passes here.
abbrev pub judged : Kind → ℕ → Option Reason
judged object_start n = reject_unless (low n == 999) WrongStart
judged load_start n = reject_unless (low n == 1011) WrongStart
judged unit_type n = and_then (reject_unless (begins_in_unit (type_of (low n))) (refused_type false (type_of (low n)) (low n))) (memory_judged (type_of (low n)) n)
judged (hunk_type last size) n = reject_unless (begins_in_load (type_of (low n))) (refused_type true (type_of (low n)) (low n))
judged (content_type in_unit) n = and_then (reject_unless (is_content (type_of (low n))) (refused_type false (type_of (low n)) (low n))) (memory_judged (type_of (low n)) n)
judged (content_type (in_load last size)) n = reject_unless (is_content (type_of (low n))) (refused_type true (type_of (low n)) (low n))
judged (block_type w limit) n = reject_unless (may_follow w (type_of (low n))) (refused_type (knows_short w) (type_of (low n)) (low n))
judged past_end n = Some (if is_unsupported (low n) then UnsupportedBlock (low n) else TrailingData)
judged unit_length n = None
judged name_length n = None
judged word n = None
judged value n = None
judged (content_size in_unit c b) n = None
judged (content_size (in_load last size) c b) n = reject_unless (nat_le (low n) size) ContentTooLong
judged (reloc_count w limit) n = None
judged (hunk_number in_unit limit more) n = None
judged (hunk_number (in_load last size) limit more) n = reject_unless (nat_le n last) (NoSuchHunk n)
judged (offset limit target) n = None
judged debug_length n = None
judged (ext_entry limit) zero = None
judged (ext_entry limit) (suc n) = reject_unless (is_entry (entry_of (suc n))) (UnsupportedExt (entry_type (suc n)))
judged (ref_count limit) n = None
judged (ref_offset limit) n = None
judged symbol_entry n = reject_unless (entry_type n == 0) (SymbolKind (entry_type n))
judged resident n = reject_unless (n == 0) ResidentNames
judged table_size n = reject_unless (nat_le 1 n && nat_le n 65535) HunkTable
judged first_hunk n = reject_unless (n == 0) HunkTable
judged (last_hunk last) n = reject_unless (n == last) HunkTable
judged (header_size last room left sizes) n = and_then (reject_unless (nat_lt (bits n) 3) BothMemoryBits) (reject_unless (nat_le (low n) room) TooLarge)
judged (short_count half last limit) n = None
judged (short_hunk half last limit more) n = reject_unless (nat_le n last) (NoSuchHunk n)
judged (short_offset half limit target) n = None
judged short_pad n = None

-- the number is not too wide, and the table lets it pass
pub record Passes (k : Kind) (n : ℕ) : Type 0 where
  pub fits : n < bound (width k)
  pub passes : judged k n ≡ None

abbrev pub AllPass : List Field → Type 0
AllPass [] = Unit {0}
AllPass (f ∷ fs) = Passes f.kind f.number × AllPass fs
