-- The single spelling of a tree: its fields in file order, each with its kind. Each function puts
-- its fields in front of a rest. Layouts are those of The AmigaDOS Manual, 3rd edition, "Amiga
-- binary file structure"; that of the short relocation block is own, its name is from doshunks.h.
use Rattle.std.specs.Prelude.{ℕ, suc, ◌+◌, ◌-◌, ◌*◌, ◌^◌, List, [], ◌∷◌, length, Option, Some, None, nat_lt, if◌then◌else◌}
use Rattle.hunk_words.specs.Kinds.{Within, Kind, Field, field, flip, half_after, content_bits, site_limit}
use Rattle.hunk_words.specs.FaultTable.{AllPass}
use Rattle.hunk_words.specs.declared.kinds.Half.{Half}
use Rattle.hunk_words.specs.declared.kinds.HunkKind.TheVariants.{Code, Data, Bss}
use Rattle.hunk_words.specs.Kinds.Within.{in_unit, in_load}
use Rattle.hunk_words.specs.declared.kinds.Half.TheVariants.{Upper as upper, Lower as lower}
use Rattle.hunk_words.specs.Kinds.Kind.{object_start, load_start, unit_type, hunk_type, content_type, block_type, unit_length, name_length, word, value, content_size, reloc_count, hunk_number, offset, debug_length, ext_entry, ref_count, ref_offset, symbol_entry, resident, table_size, first_hunk, last_hunk, header_size, short_count, short_hunk, short_offset, short_pad}
use Rattle.hunk_words.specs.Trees.{Group, ExtTree, SymbolTree, BlockTree, ContentTree, BodyTree, NameTree, HunkTree, UnitTree, ObjectTree, LoadHunkTree, LoadTree}
use Rattle.hunk_words.specs.Trees.ExtTree.{ext_def, ext_abs, ext_ref}
use Rattle.hunk_words.specs.Trees.BlockTree.{reloc_tree, short_tree, ext_tree, symbol_tree, debug_tree}
use Rattle.hunk_words.specs.Trees.ContentTree.{code_tree, data_tree, bss_tree}

-- A longword of two parts. If the lower part is too wide there is none, and the result is not a
-- longword.
unfoldable pub joined_bits : (unit high low : ℕ) → ℕ
joined_bits unit high low = if nat_lt low unit then high * unit + low else 2 ^ 32

abbrev pub type_longword : ℕ → ℕ → ℕ
type_longword type_bits t = joined_bits (2 ^ 30) type_bits t

-- a field of this kind for each number
abbrev pub each : Kind → List ℕ → List Field → List Field
each k [] rest = rest
each k (n ∷ ns) rest = field k n ∷ each k ns rest

abbrev pub groups : Within → ℕ → List Group → List Field → List Field
groups w limit [] rest = field (reloc_count w limit) 0 ∷ rest
groups w limit (g ∷ gs) rest =
    field (reloc_count w limit) (suc (length g.others)) ∷
    field (hunk_number w limit (length g.others)) g.target ∷
    field (offset limit g.target) g.first ∷
    each (offset limit g.target) g.others (groups w limit gs rest)

abbrev pub short_offsets : Half → ℕ → ℕ → List ℕ → List Field → List Field
short_offsets h limit target [] rest = rest
short_offsets h limit target (n ∷ ns) rest = field (short_offset h limit target) n ∷ short_offsets (flip h) limit target ns rest

abbrev pub padded : Half → ℕ → List Field → List Field
padded upper pad rest = field short_pad pad ∷ rest
padded lower pad rest = rest

abbrev pub short_groups : Half → ℕ → ℕ → List Group → ℕ → List Field → List Field
short_groups h last limit [] pad rest = field (short_count h last limit) 0 ∷ padded h pad rest
short_groups h last limit (g ∷ gs) pad rest =
    field (short_count h last limit) (suc (length g.others)) ∷
    field (short_hunk (flip h) last limit (length g.others)) g.target ∷
    field (short_offset (flip (flip h)) limit g.target) g.first ∷
    short_offsets (flip (flip (flip h))) limit g.target g.others (short_groups (half_after (suc (length g.others)) h) last limit gs pad rest)

abbrev pub entries : ℕ → List ExtTree → List Field → List Field
entries limit [] rest = field (ext_entry limit) 0 ∷ rest
entries limit (ext_def name at ∷ es) rest = field (ext_entry limit) (joined_bits (2 ^ 24) 1 (length name)) ∷ each word name (field value at ∷ entries limit es rest)
entries limit (ext_abs name amount ∷ es) rest = field (ext_entry limit) (joined_bits (2 ^ 24) 2 (length name)) ∷ each word name (field value amount ∷ entries limit es rest)
entries limit (ext_ref name offsets ∷ es) rest = field (ext_entry limit) (joined_bits (2 ^ 24) 129 (length name)) ∷ each word name (field (ref_count limit) (length offsets) ∷ each (ref_offset limit) offsets (entries limit es rest))

abbrev pub symbols : List SymbolTree → List Field → List Field
symbols [] rest = field symbol_entry 0 ∷ rest
symbols (x ∷ xs) rest = field symbol_entry (suc (length x.others)) ∷ field word x.first ∷ each word x.others (field value x.amount ∷ symbols xs rest)

-- only in a load file: in a unit the machine rejects the block's type
abbrev pub last_of : Within → ℕ
last_of in_unit = 0
last_of (in_load last size) = last

abbrev pub block : Within → ℕ → BlockTree → List Field → List Field
block w limit (reloc_tree b gs) rest = field (block_type w limit) (type_longword b 1004) ∷ groups w limit gs rest
block w limit (short_tree b gs pad) rest = field (block_type w limit) (type_longword b 1020) ∷ short_groups upper (last_of w) limit gs pad rest
block w limit (ext_tree b es) rest = field (block_type w limit) (type_longword b 1007) ∷ entries limit es rest
block w limit (symbol_tree b xs) rest = field (block_type w limit) (type_longword b 1008) ∷ symbols xs rest
block w limit (debug_tree b ws) rest = field (block_type w limit) (type_longword b 1009) ∷ field debug_length (length ws) ∷ each word ws rest

abbrev pub blocks_end : Within → ℕ → List BlockTree → ℕ → List Field → List Field
blocks_end w limit [] b rest = field (block_type w limit) (type_longword b 1010) ∷ rest
blocks_end w limit (x ∷ xs) b rest = block w limit x (blocks_end w limit xs b rest)

-- The content and what follows it. The kind is that of its type longword.
abbrev pub content_then : Kind → Within → ContentTree → List BlockTree → ℕ → List Field → List Field
content_then k w (code_tree b c ws) xs e rest = field k (type_longword b 1001) ∷ field (content_size w Code (content_bits w b)) (type_longword c (length ws)) ∷ each word ws (blocks_end w (site_limit w (length ws)) xs e rest)
content_then k w (data_tree b c ws) xs e rest = field k (type_longword b 1002) ∷ field (content_size w Data (content_bits w b)) (type_longword c (length ws)) ∷ each word ws (blocks_end w (site_limit w (length ws)) xs e rest)
content_then k w (bss_tree b c n) xs e rest = field k (type_longword b 1003) ∷ field (content_size w Bss (content_bits w b)) (type_longword c n) ∷ blocks_end w (site_limit w 0) xs e rest

abbrev pub body : Kind → Within → BodyTree → List Field → List Field
body k w t rest = content_then k w t.content t.blocks t.end_bits rest

-- a hunk, whose first longword is of kind k
abbrev pub hunk_at : Kind → Within → Option NameTree → BodyTree → List Field → List Field
hunk_at k w None t rest = body k w t rest
hunk_at k w (Some n) t rest = field k (type_longword n.type_bits 1000) ∷ field name_length (length n.words) ∷ each word n.words (body (content_type w) w t rest)

abbrev pub unit_hunks : List HunkTree → List Field → List Field
unit_hunks [] rest = rest
unit_hunks (t ∷ ts) rest = hunk_at unit_type in_unit t.name t.body (unit_hunks ts rest)

-- a unit, whose first longword is of kind k
abbrev pub unit_at : Kind → UnitTree → List Field → List Field
unit_at k u rest = field k (type_longword u.type_bits 999) ∷ field unit_length (length u.name) ∷ each word u.name (unit_hunks u.hunks rest)

abbrev pub units : List UnitTree → List Field → List Field
units [] rest = rest
units (u ∷ us) rest = unit_at unit_type u (units us rest)

abbrev pub object_spelling : ObjectTree → List Field
object_spelling t = unit_at object_start t.first (units t.others [])

-- Each hunk's size, with the room that is left and the earlier sizes, the latest first.
abbrev pub sizes_at : ℕ → ℕ → List ℕ → List LoadHunkTree → List Field → List Field
sizes_at last room before [] rest = rest
sizes_at last room before (t ∷ ts) rest = field (header_size last room (length ts) before) (type_longword t.memory_bits t.size) ∷ sizes_at last (room - t.size) (t.size ∷ before) ts rest

abbrev pub load_hunks : ℕ → List LoadHunkTree → List Field → List Field
load_hunks last [] rest = rest
load_hunks last (t ∷ ts) rest = hunk_at (hunk_type last t.size) (in_load last t.size) t.hunk.name t.hunk.body (load_hunks last ts rest)

abbrev pub load_spelling : LoadTree → List Field
load_spelling t =
    field load_start (type_longword t.type_bits 1011) ∷
    field resident 0 ∷
    field table_size (suc (length t.others)) ∷
    field first_hunk 0 ∷
    field (last_hunk (length t.others)) (length t.others) ∷
    sizes_at (length t.others) (2 ^ 24) [] (t.first ∷ t.others) (load_hunks (length t.others) (t.first ∷ t.others) [])

abbrev pub ObjectFits : ObjectTree → Type 0
ObjectFits t = AllPass (object_spelling t)

abbrev pub LoadFits : LoadTree → Type 0
LoadFits t = AllPass (load_spelling t)
