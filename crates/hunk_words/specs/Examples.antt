-- Worked files: which longwords are files, where and why the others offend first, and what the
-- files mean.
use Rattle.std.specs.Prelude.{◌≡◌, ℕ, List, [], ◌∷◌, ◌++◌, length}
use Rattle.hunk_words.specs.Files.{IsFile, IsFileOf}
use Rattle.hunk_words.specs.FirstOffence.{FirstOffence}
use Rattle.hunk_words.specs.Trees.{ObjectTree, LoadTree}
use Rattle.hunk_words.specs.Values.{Hunk, Part, object_value, load_sizes, load_hunk_values}
use Rattle.hunk_words.specs.Values.Adds.{to_hunk, to_reference}
use Rattle.hunk_words.specs.Values.Definition.{offset_at}
use Rattle.hunk_words.specs.declared.kinds.HunkKind.TheVariants.{Code, Bss}
use Rattle.hunk_words.specs.declared.event.FileKind.{FileKind}
use Rattle.hunk_words.specs.declared.event.FileKind.TheVariants.{Object, Load}
use Rattle.hunk_base.specs.declared.fault.Reason.{Reason}
use Rattle.hunk_base.specs.declared.fault.Reason.TheVariants.{UnexpectedEnd, WrongStart, UnknownType, MisplacedType, UnsupportedBlock, UnsupportedExt, BothMemoryBits, ResidentNames, HunkTable, TooLarge, ContentTooLong, NoSuchHunk, SiteOutside, SiteOverlap, SymbolKind, TrailingData}

-- The first offence of whole longwords is at this place, for this reason.
abbrev pub OffendsFirst : FileKind → List ℕ → ℕ → Reason → Type 0
OffendsFirst kind ws place reason = FirstOffence kind ws 0 place reason

-- The longwords are an object file of these units.
pub record TellsUnits (ws : List ℕ) (units : List Part) : Type 0 where
  pub tree : ObjectTree
  pub is_file : IsFileOf Object tree ws
  pub value : object_value tree ≡ units

-- The longwords are a load file with these memory bits and sizes in its header, and these hunks.
pub record TellsHunks (ws : List ℕ) (sizes : List (ℕ × ℕ)) (hunks : List Hunk) : Type 0 where
  pub tree : LoadTree
  pub is_file : IsFileOf Load tree ws
  pub header : load_sizes tree ≡ sizes
  pub value : load_hunk_values (length tree.others) (tree.first ∷ tree.others) ≡ hunks

-- ---- load files

-- the header of a load file of one hunk
abbrev pub header : ℕ → List ℕ → List ℕ
header size hunks = 0x3F3 ∷ 0 ∷ 1 ∷ 0 ∷ 0 ∷ size ∷ hunks

-- one hunk of one longword of code
abbrev pub small_load : List ℕ
small_load = header 1 (0x3E9 ∷ 1 ∷ 0x4E754E71 ∷ 0x3F2 ∷ [])

-- the same with other longwords in place of its content block, and with others in place of its END
abbrev pub block_changed : ℕ → ℕ → List ℕ
block_changed type size = header 1 (type ∷ size ∷ 0x4E754E71 ∷ 0x3F2 ∷ [])

abbrev pub end_changed : List ℕ → List ℕ
end_changed behind = header 1 (0x3E9 ∷ 1 ∷ 0x4E754E71 ∷ behind)

-- a header that begins with these longwords
abbrev pub header_changed : ℕ → ℕ → ℕ → ℕ → List ℕ
header_changed resident table first last = 0x3F3 ∷ resident ∷ table ∷ first ∷ last ∷ 1 ∷ 0x3E9 ∷ 1 ∷ 0x4E754E71 ∷ 0x3F2 ∷ []

-- one hunk of three longwords, the last of which is not stored and has a site
abbrev pub site_in_zeros : List ℕ
site_in_zeros = header 3 (0x3E9 ∷ 1 ∷ 0x4E754E71 ∷ 0x3EC ∷ 1 ∷ 0 ∷ 8 ∷ 0 ∷ 0x3F2 ∷ [])

-- two hunks, not in the form that a linker writes
abbrev pub unusual_load : List ℕ
unusual_load = 0x3F3 ∷ 0 ∷ 2 ∷ 0 ∷ 1 ∷ 3 ∷ 0x40000001
    ∷ 0x3E8 ∷ 1 ∷ 0x54455854 ∷ 0x3E9 ∷ 3 ∷ 0 ∷ 0 ∷ 4
    ∷ 0x3F1 ∷ 1 ∷ 0xCAFEBABE ∷ 0x3EC ∷ 1 ∷ 1 ∷ 8 ∷ 1 ∷ 0 ∷ 4 ∷ 0
    ∷ 0x3EC ∷ 1 ∷ 1 ∷ 0 ∷ 0 ∷ 0x3F0 ∷ 2 ∷ 0x41004242 ∷ 0x43434343 ∷ 2 ∷ 0 ∷ 0x3F2
    ∷ 0x3EB ∷ 0 ∷ 0x3F2 ∷ []

-- one hunk of two longwords, with these longwords of 16-bit relocations
abbrev pub short_load : List ℕ → List ℕ
short_load words = header 2 (0x3E9 ∷ 2 ∷ 4 ∷ 0 ∷ 0x3FC ∷ words)

-- ---- object files

-- two longwords of code, which refer to a name at offset 2
abbrev pub object_a : List ℕ → List ℕ
object_a external = 0x3E7 ∷ 0 ∷ 0x3E9 ∷ 2 ∷ 0x4EB90000 ∷ 0x4E75 ∷ external

abbrev pub refers : List ℕ
refers = 0x3EF ∷ 0x81000001 ∷ 0x666F6F00 ∷ 1 ∷ 2 ∷ 0 ∷ 0x3F2 ∷ []

-- two longwords of code, with these entries of an EXT block
abbrev pub object_b : List ℕ → List ℕ
object_b entries = 0x3E7 ∷ 0 ∷ 0x3E9 ∷ 2 ∷ 0x4E714E71 ∷ 0x4E754E71 ∷ 0x3EF ∷ entries

-- a unit with a name, one hunk of code with every block, and one of zeros in chip memory; the symbol's entry is given
abbrev pub object_e : ℕ → List ℕ
object_e symbol = 0x3E7 ∷ 1 ∷ 0x74657374 ∷ 0x3E8 ∷ 1 ∷ 0x434F4445 ∷ 0x3E9 ∷ 2 ∷ 0x4EB90000 ∷ 0x4E75
    ∷ 0x3EC ∷ 1 ∷ 1 ∷ 2 ∷ 0 ∷ 0x3EF ∷ 0x1000001 ∷ 0x6D61696E ∷ 0 ∷ 0
    ∷ 0x3F0 ∷ symbol ∷ 0x6C6F6F70 ∷ 6 ∷ 0 ∷ 0x3F1 ∷ 1 ∷ 0x12345678 ∷ 0x3F2
    ∷ 0x400003EB ∷ 2 ∷ 0x3F2 ∷ []

-- three longwords of zeros, with references to two names, one of them twice and one dropped, and a
-- relocation
abbrev pub references_twice : List ℕ
references_twice = 0x3E7 ∷ 1 ∷ 0x55000000 ∷ 0x3E9 ∷ 3 ∷ 0 ∷ 0 ∷ 0
    ∷ 0x3EF ∷ 0x81000001 ∷ 0x78000000 ∷ 1 ∷ 8 ∷ 0x81000001 ∷ 0x79000000 ∷ 0 ∷ 0x81000001 ∷ 0x78000000 ∷ 1 ∷ 0 ∷ 0
    ∷ 0x3EC ∷ 1 ∷ 0 ∷ 4 ∷ 0 ∷ 0x3F2 ∷ []

-- ---- what they mean

abbrev pub references_twice_units : List Part
references_twice_units = record {
  name = 0x55000000 ∷ [];
  hunks = record {
    name = [];
    kind = Code;
    memory = 0;
    size = 3;
    content = 0 ∷ 0 ∷ 0 ∷ [];
    tables = record {
      sites = (8, to_reference 0) ∷ (0, to_reference 1) ∷ (4, to_hunk 0) ∷ [];
      references = (0x78000000 ∷ []) ∷ (0x78000000 ∷ []) ∷ [];
      definitions = [];
      symbols = [];
      debugs = [];
    };
  } ∷ [];
} ∷ []

abbrev pub every_block_units : List Part
every_block_units = record {
  name = 0x74657374 ∷ [];
  hunks = record {
    name = 0x434F4445 ∷ [];
    kind = Code;
    memory = 0;
    size = 2;
    content = 0x4EB90000 ∷ 0x4E75 ∷ [];
    tables = record {
      sites = (2, to_hunk 1) ∷ [];
      references = [];
      definitions = (0x6D61696E ∷ [], offset_at 0) ∷ [];
      symbols = (0x6C6F6F70 ∷ [], 6) ∷ [];
      debugs = (0x12345678 ∷ []) ∷ [];
    };
  } ∷ record {
    name = [];
    kind = Bss;
    memory = 1;
    size = 2;
    content = [];
    tables = record { sites = []; references = []; definitions = []; symbols = []; debugs = [] };
  } ∷ [];
} ∷ []

abbrev pub unusual_hunks : List Hunk
unusual_hunks = record {
  name = 0x54455854 ∷ [];
  kind = Code;
  memory = 0;
  size = 3;
  content = 0 ∷ 0 ∷ 4 ∷ [];
  tables = record {
    sites = (8, to_hunk 1) ∷ (4, to_hunk 0) ∷ (0, to_hunk 1) ∷ [];
    references = [];
    definitions = [];
    symbols = (0x41004242 ∷ 0x43434343 ∷ [], 2) ∷ [];
    debugs = (0xCAFEBABE ∷ []) ∷ [];
  };
} ∷ record {
  name = [];
  kind = Bss;
  memory = 0;
  size = 0;
  content = [];
  tables = record { sites = []; references = []; definitions = []; symbols = []; debugs = [] };
} ∷ []

abbrev pub short_hunks : List Hunk
short_hunks = record {
  name = [];
  kind = Code;
  memory = 0;
  size = 2;
  content = 4 ∷ 0 ∷ [];
  tables = record { sites = (0, to_hunk 0) ∷ (4, to_hunk 0) ∷ []; references = []; definitions = []; symbols = []; debugs = [] };
} ∷ []

-- ---- what the definitions say about them

pub record LoadExamples : Type 0 where
  pub empty_ends_early : OffendsFirst Load [] 0 UnexpectedEnd
  pub small_is_file : IsFile Load small_load
  pub object_is_none : OffendsFirst Load (object_a refers) 0 WrongStart
  pub site_in_zeros_is_file : IsFile Load site_in_zeros
  pub unusual_is_file : IsFile Load unusual_load
  pub block_too_long : OffendsFirst Load (block_changed 0x3E9 2) 7 ContentTooLong
  pub size_bits_ignored : IsFile Load (block_changed 0x3E9 0xC0000001)
  pub type_bits_ignored : IsFile Load (block_changed 0xC00003E9 1)
  pub advisory_bit_is_type : OffendsFirst Load (block_changed 0x200003E9 1) 6 (UnknownType 536871913)
  pub short_is_no_content : OffendsFirst Load (block_changed 0x3FC 1) 6 (MisplacedType 1020)
  pub both_memories : OffendsFirst Load (header 0xC0000001 (0x3E9 ∷ [])) 5 BothMemoryBits
  pub behind_file : OffendsFirst Load (small_load ++ (0 ∷ [])) 10 TrailingData
  pub overlay_behind_file : OffendsFirst Load (small_load ++ (0x3F5 ∷ [])) 10 (UnsupportedBlock 1013)
  pub short_behind_file : OffendsFirst Load (small_load ++ (0x3FC ∷ [])) 10 TrailingData
  pub end_missing : OffendsFirst Load (end_changed []) 9 UnexpectedEnd
  pub next_hunk_without_end : OffendsFirst Load (end_changed (0x3E9 ∷ [])) 9 (MisplacedType 1001)
  pub unsupported_block : OffendsFirst Load (end_changed (0x3F7 ∷ [])) 9 (UnsupportedBlock 1015)
  pub hunk_not_there : OffendsFirst Load (end_changed (0x3EC ∷ 1 ∷ 1 ∷ [])) 11 (NoSuchHunk 1)
  pub no_hunks : OffendsFirst Load (header_changed 0 0 0 0) 2 HunkTable
  pub many_hunks : OffendsFirst Load (header_changed 0 0x10000 0 0) 2 HunkTable
  pub first_hunk_not_0 : OffendsFirst Load (header_changed 0 1 1 0) 3 HunkTable
  pub last_hunk_wrong : OffendsFirst Load (header_changed 0 1 0 1) 4 HunkTable
  pub resident_names : OffendsFirst Load (header_changed 1 1 0 0) 1 ResidentNames
  pub sizes_just_fit : OffendsFirst Load (0x3F3 ∷ 0 ∷ 2 ∷ 0 ∷ 1 ∷ 0xFFFFFF ∷ 1 ∷ []) 7 UnexpectedEnd
  pub sizes_too_large : OffendsFirst Load (0x3F3 ∷ 0 ∷ 2 ∷ 0 ∷ 1 ∷ 0xFFFFFF ∷ 2 ∷ []) 6 TooLarge

-- The words of a 16-bit relocation block are judged one by one, the upper one of a longword first.
pub record ShortExamples : Type 0 where
  pub odd_words_and_pad : IsFile Load (short_load (0x20000 ∷ 4 ∷ 0xFFFF ∷ 0x3F2 ∷ []))
  pub even_words : IsFile Load (short_load (0x10000 ∷ 0x40000 ∷ 0x3F2 ∷ []))
  pub no_groups : IsFile Load (short_load (0 ∷ 0x3F2 ∷ []))
  pub lower_overlaps : OffendsFirst Load (short_load (0x20000 ∷ 2 ∷ 0xFFFF ∷ 0x3F2 ∷ [])) 12 (SiteOverlap 2)
  pub upper_comes_first : OffendsFirst Load (short_load (0x20000 ∷ 0x50006 ∷ 0xFFFF ∷ 0x3F2 ∷ [])) 12 (SiteOutside 5)
  pub short_hunk_not_there : OffendsFirst Load (short_load (0x20001 ∷ 4 ∷ 0xFFFF ∷ 0x3F2 ∷ [])) 11 (NoSuchHunk 1)
  pub pad_missing : OffendsFirst Load (short_load (0x20000 ∷ 4 ∷ [])) 13 UnexpectedEnd
  pub short_in_unit : OffendsFirst Object (object_a (0x3FC ∷ [])) 6 (UnknownType 1020)

pub record ObjectExamples : Type 0 where
  pub empty_ends_early : OffendsFirst Object [] 0 UnexpectedEnd
  pub unit_without_hunks : IsFile Object (0x3E7 ∷ 0 ∷ [])
  pub load_is_none : OffendsFirst Object small_load 0 WrongStart
  pub reference_is_file : IsFile Object (object_a refers)
  pub every_block_is_file : IsFile Object (object_e 1)
  pub references_twice_is_file : IsFile Object references_twice
  pub sites_overlap : OffendsFirst Object (object_a (0x3EC ∷ 1 ∷ 0 ∷ 2 ∷ 0 ∷ 0x3EF ∷ 0x81000001 ∷ 0x666F6F00 ∷ 1 ∷ 4 ∷ [])) 15 (SiteOverlap 4)
  pub site_just_inside : OffendsFirst Object (object_a (0x3EC ∷ 1 ∷ 0 ∷ 4 ∷ [])) 10 UnexpectedEnd
  pub site_outside : OffendsFirst Object (object_a (0x3EC ∷ 1 ∷ 0 ∷ 5 ∷ [])) 9 (SiteOutside 5)
  pub site_in_zeros : OffendsFirst Object (0x3E7 ∷ 0 ∷ 0x3EB ∷ 4 ∷ 0x3EC ∷ 1 ∷ 0 ∷ 0 ∷ []) 7 (SiteOutside 0)
  pub chip_zeros : IsFile Object (0x3E7 ∷ 0 ∷ 0x400003EA ∷ 1 ∷ 0 ∷ 0x3F2 ∷ [])
  pub both_memories : OffendsFirst Object (0x3E7 ∷ 0 ∷ 0xC00003EA ∷ 1 ∷ 0 ∷ 0x3F2 ∷ []) 2 BothMemoryBits
  pub two_definitions : IsFile Object (object_b (0x1000002 ∷ 0x666F6F00 ∷ 0xDEADBEEF ∷ 4 ∷ 0 ∷ 0x3F2 ∷ []))
  pub common_symbol : OffendsFirst Object (object_b (0x82000001 ∷ [])) 7 (UnsupportedExt 130)
  pub symbol_in_ext : OffendsFirst Object (object_b (1 ∷ [])) 7 (UnsupportedExt 0)
  pub symbol_of_kind : OffendsFirst Object (object_e 0x1000001) 21 (SymbolKind 1)

-- what the files mean
pub record ValueExamples : Type 0 where
  -- a reference without offsets is dropped, and a second one to the same name is kept
  pub references_twice_told : TellsUnits references_twice references_twice_units
  pub every_block_told : TellsUnits (object_e 1) every_block_units
  pub unusual_told : TellsHunks unusual_load ((0, 3) ∷ (1, 1) ∷ []) unusual_hunks
  pub short_told : TellsHunks (short_load (0x20000 ∷ 4 ∷ 0xFFFF ∷ 0x3F2 ∷ [])) ((0, 2) ∷ []) short_hunks
