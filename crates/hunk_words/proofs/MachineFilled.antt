-- What a kind begins: the parts of a tree that come where it is expected, up to what was expected
-- after it. A stack is filled by what each of its kinds begins.
use Rattle.std.specs.Prelude.{◌≡◌, ℕ, suc, ◌^◌, List, [], ◌∷◌, length}
use Rattle.hunk_words.specs.Kinds.{Kind, Field, field, flip, site_limit}
use Rattle.hunk_words.specs.Kinds.Within.{in_load}
use Rattle.hunk_words.specs.Kinds.Kind.{object_start, load_start, unit_type, hunk_type, content_type, block_type, past_end, unit_length, name_length, word, value, content_size, reloc_count, hunk_number, offset, debug_length, ext_entry, ref_count, ref_offset, symbol_entry, resident, table_size, first_hunk, last_hunk, header_size, short_count, short_hunk, short_offset, short_pad}
use Rattle.hunk_words.specs.declared.kinds.HunkKind.TheVariants.{Code, Data, Bss}
use Rattle.hunk_words.specs.Trees.{Group, ExtTree, SymbolTree, BlockTree, BodyTree, HunkTree, UnitTree, ObjectTree, LoadHunkTree, LoadTree}
use Rattle.hunk_words.specs.Spelling.{type_longword, each, groups, short_offsets, short_groups, entries, symbols, blocks_end, body, hunk_at, unit_hunks, unit_at, units, sizes_at, load_hunks}

-- a hunk for each size
abbrev pub Hunks : List ℕ → Type 0
Hunks [] = Unit {0}
Hunks (size ∷ sizes) = HunkTree × Hunks sizes

-- The hunks of these sizes, the latest first.
abbrev pub hunks_before : ℕ → (sizes : List ℕ) → Hunks sizes → List Field → List Field
hunks_before last [] hs rest = rest
hunks_before last (size ∷ sizes) hs rest = hunks_before last sizes hs.1 (hunk_at (hunk_type last size) (in_load last size) hs.0.name hs.0.body rest)

-- what kind begins
abbrev pub Made : Kind → Type 0
Made object_start = ObjectTree
Made load_start = LoadTree
Made unit_type = List HunkTree × List UnitTree
Made (hunk_type last size) = HunkTree
Made (content_type w) = BodyTree
Made (block_type w limit) = List BlockTree × ℕ
Made past_end = ⊥
Made unit_length = List ℕ
Made name_length = List ℕ
Made word = ℕ
Made value = ℕ
Made (content_size w Bss b) = ℕ × ℕ × List BlockTree × ℕ
Made (content_size w c b) = ℕ × List ℕ × List BlockTree × ℕ
Made (reloc_count w limit) = List Group
Made (hunk_number w limit more) = (g : Group) × (length g.others ≡ more)
Made (offset limit target) = ℕ
Made debug_length = List ℕ
Made (ext_entry limit) = List ExtTree
Made (ref_count limit) = List ℕ
Made (ref_offset limit) = ℕ
Made symbol_entry = List SymbolTree
Made resident = Unit {0}
Made table_size = LoadHunkTree × List LoadHunkTree
Made first_hunk = Unit {0}
Made (last_hunk last) = Unit {0}
Made (header_size last room left sizes) = (h : LoadHunkTree) × (others : List LoadHunkTree) × (length others ≡ left) × Hunks sizes
Made (short_count h last limit) = List Group × ℕ
Made (short_hunk h last limit more) = (g : Group) × (length g.others ≡ more)
Made (short_offset h limit target) = ℕ
Made short_pad = ℕ

-- its fields, in front of a rest
abbrev pub made : (k : Kind) → Made k → List Field → List Field
made object_start t rest = unit_at object_start t.first (units t.others rest)
made load_start t rest =
    field load_start (type_longword t.type_bits 1011) ∷
    field resident 0 ∷
    field table_size (suc (length t.others)) ∷
    field first_hunk 0 ∷
    field (last_hunk (length t.others)) (length t.others) ∷
    sizes_at (length t.others) (2 ^ 24) [] (t.first ∷ t.others) (load_hunks (length t.others) (t.first ∷ t.others) rest)
made unit_type m rest = unit_hunks m.0 (units m.1 rest)
made (hunk_type last size) m rest = hunk_at (hunk_type last size) (in_load last size) m.name m.body rest
made (content_type w) m rest = body (content_type w) w m rest
made (block_type w limit) m rest = blocks_end w limit m.0 m.1 rest
made past_end m rest = absurd m
made unit_length m rest = field unit_length (length m) ∷ each word m rest
made name_length m rest = field name_length (length m) ∷ each word m rest
made word m rest = field word m ∷ rest
made value m rest = field value m ∷ rest
made (content_size w Bss b) m rest = field (content_size w Bss b) (type_longword m.0 m.1) ∷ blocks_end w (site_limit w 0) m.2 m.3 rest
made (content_size w Code b) m rest = field (content_size w Code b) (type_longword m.0 (length m.1)) ∷ each word m.1 (blocks_end w (site_limit w (length m.1)) m.2 m.3 rest)
made (content_size w Data b) m rest = field (content_size w Data b) (type_longword m.0 (length m.1)) ∷ each word m.1 (blocks_end w (site_limit w (length m.1)) m.2 m.3 rest)
made (reloc_count w limit) m rest = groups w limit m rest
made (hunk_number w limit more) m rest = field (hunk_number w limit more) m.0.target ∷ field (offset limit m.0.target) m.0.first ∷ each (offset limit m.0.target) m.0.others rest
made (offset limit target) m rest = field (offset limit target) m ∷ rest
made debug_length m rest = field debug_length (length m) ∷ each word m rest
made (ext_entry limit) m rest = entries limit m rest
made (ref_count limit) m rest = field (ref_count limit) (length m) ∷ each (ref_offset limit) m rest
made (ref_offset limit) m rest = field (ref_offset limit) m ∷ rest
made symbol_entry m rest = symbols m rest
made resident m rest = field resident 0 ∷ rest
made table_size m rest =
    field table_size (suc (length m.1)) ∷
    field first_hunk 0 ∷
    field (last_hunk (length m.1)) (length m.1) ∷
    sizes_at (length m.1) (2 ^ 24) [] (m.0 ∷ m.1) (load_hunks (length m.1) (m.0 ∷ m.1) rest)
made first_hunk m rest = field first_hunk 0 ∷ rest
made (last_hunk last) m rest = field (last_hunk last) last ∷ rest
made (header_size last room left sizes) m rest = sizes_at last room sizes (m.0 ∷ m.1) (hunks_before last sizes m.3 (load_hunks last (m.0 ∷ m.1) rest))
made (short_count h last limit) m rest = short_groups h last limit m.0 m.1 rest
made (short_hunk h last limit more) m rest = field (short_hunk h last limit more) m.0.target ∷ field (short_offset (flip h) limit m.0.target) m.0.first ∷ short_offsets (flip (flip h)) limit m.0.target m.0.others rest
made (short_offset h limit target) m rest = field (short_offset h limit target) m ∷ rest
made short_pad m rest = field short_pad m ∷ rest

-- what a stack begins: what each of its kinds does
abbrev pub Filled : List Kind → Type 0
Filled [] = Unit {0}
Filled (k ∷ s) = Made k × Filled s

abbrev pub filled : (s : List Kind) → Filled s → List Field
filled [] x = []
filled (k ∷ s) x = made k x.0 (filled s x.1)

-- What the kind begins by this number, before these fields.
abbrev pub Begun : Kind → ℕ → List Kind → List Field → Type 0
Begun k n s fs = (x : Filled (k ∷ s)) × (filled (k ∷ s) x ≡ field k n ∷ fs)
