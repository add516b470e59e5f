-- What a number makes expected is begun, then so is what its kind begins: a lemma for the kinds of
-- one part of a tree.
use Rattle.std.proofs.Common.{◌≡◌, ℕ, zero, suc, ◌-◌, ◌^◌, ◌≤◌, true, List, [], ◌∷◌, length, Some, None, refl, ap, sym, ◌∙◌, arith}
use Rattle.hunk_words.specs.Kinds.{Within, Kind, Field, field, low, bits, entry_type, entry_length, is_entry, flip, half_after, content_bits, site_limit}
use Rattle.hunk_words.specs.FaultTable.{is_content, may_follow, begins_in_unit, begins_in_load}
use Rattle.hunk_words.specs.Kinds.Within.{in_unit, in_load}
use Rattle.hunk_words.specs.Kinds.Kind.{load_start, unit_type, content_type, block_type, word, value, content_size, reloc_count, hunk_number, offset, ext_entry, ref_count, ref_offset, symbol_entry, table_size, first_hunk, last_hunk, header_size, short_count, short_hunk, short_offset}
use Rattle.hunk_words.specs.declared.kinds.Half.{Half}
use Rattle.hunk_words.specs.declared.kinds.HunkKind.{HunkKind}
use Rattle.hunk_words.specs.declared.kinds.HunkKind.TheVariants.{Code, Data, Bss}
use Rattle.hunk_words.specs.declared.kinds.BlockType.{BlockType}
use Rattle.hunk_words.specs.declared.kinds.BlockType.TheVariants.{Unit as unit, Name as name, Content as content, Reloc as reloc, Ext as ext, Symbol as symbol, Debug as debug, End as end, Short as short}
use Rattle.hunk_words.specs.declared.kinds.EntryType.{EntryType}
use Rattle.hunk_words.specs.declared.kinds.EntryType.TheVariants.{Definition as definition, Absolute as absolute, Reference as reference, Other as other_entry}
use Rattle.hunk_words.specs.Trees.{SymbolTree, BlockTree, BodyTree, HunkTree}
use Rattle.hunk_words.specs.Trees.ExtTree.{ext_def, ext_abs, ext_ref}
use Rattle.hunk_words.specs.Trees.BlockTree.{reloc_tree, short_tree, ext_tree, symbol_tree, debug_tree}
use Rattle.hunk_words.specs.Trees.ContentTree.{code_tree, data_tree, bss_tree}
use Rattle.hunk_words.specs.Spelling.{joined_bits, type_longword, each, groups, short_offsets, short_groups, symbols, blocks_end, body, hunk_at, sizes_at, load_hunks}
use Rattle.hunk_words.specs.Machine.{times, short_times, reverse_onto, hunks_due, unit_part, hunk_part, block_part, content_part, entry_part, entry_tail, push}
use Rattle.hunk_words.proofs.FaultTableLemmas.{TypeIs, EntryIs, type_longword-whole, entry-whole}
use Rattle.hunk_words.proofs.MachineFilled.{Hunks, hunks_before, Made, made, Filled, filled, Begun}

-- ---- kinds that are expected several times

-- the numbers of a kind that is expected n times
abbrev pub Each : Kind → ℕ → List Kind → List Field → Type 0
Each k n s fs = (ns : List ℕ) × (x : Filled s) × (length ns ≡ n) × (each k ns (filled s x) ≡ fs)

pub each-of-times : (k : Kind) (to : Made k → ℕ) → ((m : Made k) (rest : List Field) → made k m rest ≡ field k (to m) ∷ rest)
    → (n : ℕ) (s : List Kind) (x : Filled (times n k s)) → Each k n s (filled (times n k s) x)
each-of-times k to is zero s x = ([], x, refl, refl)
each-of-times k to is (suc n) s x =
    let r : Each k n s (filled (times n k s) x.1) = each-of-times k to is n s x.1 in
    (to x.0 ∷ r.0, r.1, ap (λ q. suc q) r.2, ap (λ q. field k (to x.0) ∷ q) r.3 ∙ sym (is x.0 (filled (times n k s) x.1)))

pub words-of-times : (n : ℕ) (s : List Kind) (x : Filled (times n word s)) → Each word n s (filled (times n word s) x)
words-of-times n s x = each-of-times word (λ m. m) (λ m rest. refl) n s x

-- the offsets in halves
abbrev pub EachShort : Half → ℕ → ℕ → ℕ → List Kind → List Field → Type 0
EachShort h limit target n s fs = (ns : List ℕ) × (x : Filled s) × (length ns ≡ n) × (short_offsets h limit target ns (filled s x) ≡ fs)

pub each-of-short_times : (n : ℕ) (h : Half) (limit target : ℕ) (s : List Kind) (x : Filled (short_times n h limit target s)) → EachShort h limit target n s (filled (short_times n h limit target s) x)
each-of-short_times zero h limit target s x = ([], x, refl, refl)
each-of-short_times (suc n) h limit target s x =
    let r : EachShort (flip h) limit target n s (filled (short_times n (flip h) limit target s) x.1) = each-of-short_times n (flip h) limit target s x.1 in
    (x.0 ∷ r.0, r.1, ap (λ q. suc q) r.2, ap (λ q. field (short_offset h limit target) x.0 ∷ q) r.3)

-- the hunks of a load file, each expected by its size
abbrev pub AllHunks : ℕ → List ℕ → List ℕ → List Kind → List Field → Type 0
AllHunks last before sizes s fs = (hs : Hunks before) × (x : Filled (hunks_due last sizes s)) × (hunks_before last before hs (filled (hunks_due last sizes s) x) ≡ fs)

pub hunks-of-reverse_onto : (last : ℕ) (before sizes : List ℕ) (s : List Kind) (x : Filled (hunks_due last (reverse_onto before sizes) s)) → AllHunks last before sizes s (filled (hunks_due last (reverse_onto before sizes) s) x)
hunks-of-reverse_onto last [] sizes s x = (tt, x, refl)
hunks-of-reverse_onto last (a ∷ before) sizes s x =
    let r : AllHunks last before (a ∷ sizes) s (filled (hunks_due last (reverse_onto before (a ∷ sizes)) s) x) = hunks-of-reverse_onto last before (a ∷ sizes) s x in
    ((r.1.0, r.0), r.1.1, r.2)

-- ---- relocations

pub build-reloc_count : (w : Within) (limit n : ℕ) (s : List Kind) (x : Filled (push (reloc_count w limit) n s)) → Begun (reloc_count w limit) n s (filled (push (reloc_count w limit) n s) x)
build-reloc_count w limit zero s x = (([], x), refl)
build-reloc_count w limit (suc n) s x =
    let g = x.0.0 in (
      (g ∷ x.1.0, x.1.1),
      ap (λ q. field (reloc_count w limit) (suc q) ∷ field (hunk_number w limit q) g.target ∷ field (offset limit g.target) g.first ∷ each (offset limit g.target) g.others (groups w limit x.1.0 (filled s x.1.1))) x.0.1,
    )

pub build-hunk_number : (w : Within) (limit more n : ℕ) (s : List Kind) (x : Filled (push (hunk_number w limit more) n s)) → Begun (hunk_number w limit more) n s (filled (push (hunk_number w limit more) n s) x)
build-hunk_number w limit more n s x =
    let r : Each (offset limit n) more s (filled (times more (offset limit n) s) x.1) = each-of-times (offset limit n) (λ m. m) (λ m rest. refl) more s x.1 in
    (((record { target = n; first = x.0; others = r.0 }, r.2), r.1), ap (λ q. field (hunk_number w limit more) n ∷ field (offset limit n) x.0 ∷ q) r.3)

pub build-short_count : (h : Half) (last limit n : ℕ) (s : List Kind) (x : Filled (short_hunk (flip h) last limit n ∷ short_count (half_after (suc n) h) last limit ∷ s))
    → Begun (short_count h last limit) (suc n) s (filled (short_hunk (flip h) last limit n ∷ short_count (half_after (suc n) h) last limit ∷ s) x)
build-short_count h last limit n s x =
    let g = x.0.0 in (
      ((g ∷ x.1.0.0, x.1.0.1), x.1.1),
      ap (λ q. field (short_count h last limit) (suc q) ∷ field (short_hunk (flip h) last limit q) g.target ∷ field (short_offset (flip (flip h)) limit g.target) g.first
          ∷ short_offsets (flip (flip (flip h))) limit g.target g.others (short_groups (half_after (suc q) h) last limit x.1.0.0 x.1.0.1 (filled s x.1.1))) x.0.1,
    )

pub build-short_hunk : (h : Half) (last limit more n : ℕ) (s : List Kind) (x : Filled (push (short_hunk h last limit more) n s)) → Begun (short_hunk h last limit more) n s (filled (push (short_hunk h last limit more) n s) x)
build-short_hunk h last limit more n s x =
    let r : EachShort (flip (flip h)) limit n more s (filled (short_times more (flip (flip h)) limit n s) x.1) = each-of-short_times more (flip (flip h)) limit n s x.1 in
    (((record { target = n; first = x.0; others = r.0 }, r.2), r.1), ap (λ q. field (short_hunk h last limit more) n ∷ field (short_offset (flip h) limit n) x.0 ∷ q) r.3)

-- ---- names, debug blocks and symbols

-- a length and words
pub lengths-of-times : (k : Kind) (n : ℕ) (s : List Kind) (x : Filled (times n word s))
    → (ws : List ℕ) × (y : Filled s) × (Path (List Field) (field k (length ws) ∷ each word ws (filled s y)) (field k n ∷ filled (times n word s) x))
lengths-of-times k n s x =
    let r : Each word n s (filled (times n word s) x) = words-of-times n s x in
    (r.0, r.1, ap (λ q. field k q ∷ each word r.0 (filled s r.1)) r.2 ∙ ap (λ q. field k n ∷ q) r.3)

pub build-ref_count : (limit n : ℕ) (s : List Kind) (x : Filled (times n (ref_offset limit) s)) → Begun (ref_count limit) n s (filled (times n (ref_offset limit) s) x)
build-ref_count limit n s x =
    let r : Each (ref_offset limit) n s (filled (times n (ref_offset limit) s) x) = each-of-times (ref_offset limit) (λ m. m) (λ m rest. refl) n s x in
    ((r.0, r.1), ap (λ q. field (ref_count limit) q ∷ each (ref_offset limit) r.0 (filled s r.1)) r.2 ∙ ap (λ q. field (ref_count limit) n ∷ q) r.3)

pub build-symbol_entry : (n : ℕ) (s : List Kind) (x : Filled (push symbol_entry n s)) → Begun symbol_entry n s (filled (push symbol_entry n s) x)
build-symbol_entry zero s x = (([], x), refl)
build-symbol_entry (suc n) s x =
    let r : Each word n (value ∷ symbol_entry ∷ s) (filled (times n word (value ∷ symbol_entry ∷ s)) x.1) = words-of-times n (value ∷ symbol_entry ∷ s) x.1 in
    let y : ℕ × (List SymbolTree × Filled s) = r.1 in (
      (record { first = x.0; others = r.0; amount = y.0 } ∷ y.1.0, y.1.1),
      ap (λ q. field symbol_entry (suc q) ∷ field word x.0 ∷ each word r.0 (field value y.0 ∷ symbols y.1.0 (filled s y.1.1))) r.2
          ∙ ap (λ q. field symbol_entry (suc n) ∷ field word x.0 ∷ q) r.3,
    )

-- ---- external symbols

-- an entry's first longword and the words of its name
entry-words : (limit n t : ℕ) (ns : List ℕ) (fs gs : List Field) → entry_type n ≡ t → length ns ≡ entry_length n → each word ns fs ≡ gs
    → field (ext_entry limit) (joined_bits (2 ^ 24) t (length ns)) ∷ each word ns fs ≡ field (ext_entry limit) n ∷ gs
entry-words limit n t ns fs gs is len named =
    ap (λ q. field (ext_entry limit) q ∷ each word ns fs) (entry-whole n t (length ns) is (sym len)) ∙ ap (λ q. field (ext_entry limit) n ∷ q) named

-- a name and what comes after it
abbrev Named : ℕ → EntryType → ℕ → List Kind → List Field → Type 0
Named limit type n s fs = Each word n (entry_tail limit type ∷ ext_entry limit ∷ s) fs

named : (limit : ℕ) (type : EntryType) (n : ℕ) (s : List Kind) (x : Filled (entry_part limit type n s)) → Named limit type n s (filled (entry_part limit type n s) x)
named limit type n s x = words-of-times n (entry_tail limit type ∷ ext_entry limit ∷ s) x

pub build-entry : (limit n : ℕ) (s : List Kind) (type : EntryType) → EntryIs type (entry_type (suc n)) → is_entry type ≡ true
    → (x : Filled (entry_part limit type (entry_length (suc n)) s))
    → Begun (ext_entry limit) (suc n) s (filled (entry_part limit type (entry_length (suc n)) s) x)
build-entry limit n s definition is p x =
    let r : Named limit definition (entry_length (suc n)) s (filled (entry_part limit definition (entry_length (suc n)) s) x) = named limit definition (entry_length (suc n)) s x in
    ((ext_def r.0 r.1.0 ∷ r.1.1.0, r.1.1.1), entry-words limit (suc n) 1 r.0 _ _ is r.2 r.3)
build-entry limit n s absolute is p x =
    let r : Named limit absolute (entry_length (suc n)) s (filled (entry_part limit absolute (entry_length (suc n)) s) x) = named limit absolute (entry_length (suc n)) s x in
    ((ext_abs r.0 r.1.0 ∷ r.1.1.0, r.1.1.1), entry-words limit (suc n) 2 r.0 _ _ is r.2 r.3)
build-entry limit n s reference is p x =
    let r : Named limit reference (entry_length (suc n)) s (filled (entry_part limit reference (entry_length (suc n)) s) x) = named limit reference (entry_length (suc n)) s x in
    ((ext_ref r.0 r.1.0 ∷ r.1.1.0, r.1.1.1), entry-words limit (suc n) 129 r.0 _ _ is r.2 r.3)
build-entry limit n s other_entry is p x = absurd (cc)

-- ---- blocks

pub build-block : (w : Within) (limit n : ℕ) (s : List Kind) (type : BlockType) → TypeIs type (low n) → may_follow w type ≡ true
    → (x : Filled (block_part w limit type s)) → Begun (block_type w limit) n s (filled (block_part w limit type s) x)
build-block w limit n s reloc is p x =
    (((reloc_tree (bits n) x.0 ∷ x.1.0.0, x.1.0.1), x.1.1), ap (λ q. field (block_type w limit) q ∷ filled (block_part w limit reloc s) x) (type_longword-whole n 1004 is))
build-block w limit n s symbol is p x =
    (((symbol_tree (bits n) x.0 ∷ x.1.0.0, x.1.0.1), x.1.1), ap (λ q. field (block_type w limit) q ∷ filled (block_part w limit symbol s) x) (type_longword-whole n 1008 is))
build-block w limit n s debug is p x =
    (((debug_tree (bits n) x.0 ∷ x.1.0.0, x.1.0.1), x.1.1), ap (λ q. field (block_type w limit) q ∷ filled (block_part w limit debug s) x) (type_longword-whole n 1009 is))
build-block w limit n s end is p x = ((([], bits n), x), ap (λ q. field (block_type w limit) q ∷ filled s x) (type_longword-whole n 1010 is))
build-block in_unit limit n s ext is p x =
    (((ext_tree (bits n) x.0 ∷ x.1.0.0, x.1.0.1), x.1.1), ap (λ q. field (block_type in_unit limit) q ∷ filled (block_part in_unit limit ext s) x) (type_longword-whole n 1007 is))
build-block (in_load last size) limit n s short is p x = (
  ((short_tree (bits n) x.0.0 x.0.1 ∷ x.1.0.0, x.1.0.1), x.1.1),
  ap (λ q. field (block_type (in_load last size) limit) q ∷ filled (block_part (in_load last size) limit short s) x) (type_longword-whole n 1020 is),
)
build-block _ limit n s _ is p x = absurd (cc)

-- ---- hunks and units

-- the content whose type longword is this number, with what follows it
abbrev BodyBegun : Kind → Within → ℕ → List Field → List Field → Type 0
BodyBegun k w n rest fs = (t : BodyTree) × (body k w t rest ≡ field k n ∷ fs)

build-body : (k : Kind) (w : Within) (n : ℕ) (c : HunkKind) → TypeIs (content c) (low n) → (m : Made (content_size w c (content_bits w (bits n)))) (rest : List Field)
    → BodyBegun k w n rest (made (content_size w c (content_bits w (bits n))) m rest)
build-body k w n Code is m rest =
    (record { content = code_tree (bits n) m.0 m.1; blocks = m.2; end_bits = m.3 }, ap (λ q. field k q ∷ made (content_size w Code (content_bits w (bits n))) m rest) (type_longword-whole n 1001 is))
build-body k w n Data is m rest =
    (record { content = data_tree (bits n) m.0 m.1; blocks = m.2; end_bits = m.3 }, ap (λ q. field k q ∷ made (content_size w Data (content_bits w (bits n))) m rest) (type_longword-whole n 1002 is))
build-body k w n Bss is m rest =
    (record { content = bss_tree (bits n) m.0 m.1; blocks = m.2; end_bits = m.3 }, ap (λ q. field k q ∷ made (content_size w Bss (content_bits w (bits n))) m rest) (type_longword-whole n 1003 is))

pub build-content_type : (w : Within) (n : ℕ) (s : List Kind) (type : BlockType) → TypeIs type (low n) → is_content type ≡ true
    → (x : Filled (hunk_part w type (bits n) s)) → Begun (content_type w) n s (filled (hunk_part w type (bits n) s) x)
build-content_type w n s (content c) is p x =
    let r : BodyBegun (content_type w) w n (filled s x.1) (filled (hunk_part w (content c) (bits n) s) x) = build-body (content_type w) w n c is x.0 (filled s x.1) in
    ((r.0, x.1), r.1)
build-content_type w n s _ is p x = absurd (cc)

-- a hunk, whose first longword is of kind k
abbrev pub HunkBegun : Kind → Within → ℕ → List Kind → List Field → Type 0
HunkBegun k w n s fs = (t : HunkTree) × (x : Filled s) × (hunk_at k w t.name t.body (filled s x) ≡ field k n ∷ fs)

pub build-hunk : (k : Kind) (w : Within) (n : ℕ) (s : List Kind) (type : BlockType) → TypeIs type (low n) → begins_in_load type ≡ true
    → (x : Filled (hunk_part w type (bits n) s)) → HunkBegun k w n s (filled (hunk_part w type (bits n) s) x)
build-hunk k w n s name is p x =
    (record { name = Some (record { type_bits = bits n; words = x.0 }); body = x.1.0 }, x.1.1, ap (λ q. field k q ∷ filled (hunk_part w name (bits n) s) x) (type_longword-whole n 1000 is))
build-hunk k w n s (content c) is p x =
    let r : BodyBegun k w n (filled s x.1) (filled (hunk_part w (content c) (bits n) s) x) = build-body k w n c is x.0 (filled s x.1) in
    (record { name = None; body = r.0 }, x.1, r.1)
build-hunk k w n s _ is p x = absurd (cc)

pub build-unit_type : (n : ℕ) (s : List Kind) (type : BlockType) → TypeIs type (low n) → begins_in_unit type ≡ true
    → (x : Filled (unit_part type (bits n) s)) → Begun unit_type n s (filled (unit_part type (bits n) s) x)
build-unit_type n s unit is p x =
    ((([], record { type_bits = bits n; name = x.0; hunks = x.1.0.0 } ∷ x.1.0.1), x.1.1), ap (λ q. field unit_type q ∷ filled (unit_part unit (bits n) s) x) (type_longword-whole n 999 is))
build-unit_type n s name is p x =
    let r : HunkBegun unit_type in_unit n (unit_type ∷ s) (filled (unit_part name (bits n) s) x) = build-hunk unit_type in_unit n (unit_type ∷ s) name is p x in
    (((r.0 ∷ r.1.0.0, r.1.0.1), r.1.1), r.2)
build-unit_type n s (content c) is p x =
    let r : HunkBegun unit_type in_unit n (unit_type ∷ s) (filled (unit_part (content c) (bits n) s) x) = build-hunk unit_type in_unit n (unit_type ∷ s) (content c) is p x in
    (((r.0 ∷ r.1.0.0, r.1.0.1), r.1.1), r.2)
build-unit_type n s _ is p x = absurd (cc)

-- the size of content, and its words
abbrev WordsBegun : Kind → Within → ℕ → List Kind → List Field → Type 0
WordsBegun k w n s fs = (ws : List ℕ) × (bs : List BlockTree) × (e : ℕ) × (x : Filled s)
    × (Path (List Field) (field k (type_longword (bits n) (length ws)) ∷ each word ws (blocks_end w (site_limit w (length ws)) bs e (filled s x))) (field k n ∷ fs))

words-begun : (k : Kind) (w : Within) (n : ℕ) (s : List Kind) (x : Filled (times (low n) word (block_type w (site_limit w (low n)) ∷ s)))
    → WordsBegun k w n s (filled (times (low n) word (block_type w (site_limit w (low n)) ∷ s)) x)
words-begun k w n s x =
    let r : Each word (low n) (block_type w (site_limit w (low n)) ∷ s) (filled (times (low n) word (block_type w (site_limit w (low n)) ∷ s)) x) = words-of-times (low n) (block_type w (site_limit w (low n)) ∷ s) x in
    let y : (List BlockTree × ℕ) × Filled s = r.1 in (
      r.0,
      y.0.0,
      y.0.1,
      y.1,
      ap (λ q. field k (type_longword (bits n) q) ∷ each word r.0 (blocks_end w (site_limit w q) y.0.0 y.0.1 (filled s y.1))) r.2
          ∙ (ap (λ q. field k q ∷ each word r.0 (blocks_end w (site_limit w (low n)) y.0.0 y.0.1 (filled s y.1))) (type_longword-whole n (low n) refl)
          ∙ ap (λ q. field k n ∷ q) r.3),
    )

pub build-content_size : (w : Within) (c : HunkKind) (b n : ℕ) (s : List Kind) (x : Filled (content_part w c (low n) s))
    → Begun (content_size w c b) n s (filled (content_part w c (low n) s) x)
build-content_size w Code b n s x =
    let r : WordsBegun (content_size w Code b) w n s (filled (content_part w Code (low n) s) x) = words-begun (content_size w Code b) w n s x in
    (((bits n, r.0, r.1, r.2), r.3), r.4)
build-content_size w Data b n s x =
    let r : WordsBegun (content_size w Data b) w n s (filled (content_part w Data (low n) s) x) = words-begun (content_size w Data b) w n s x in
    (((bits n, r.0, r.1, r.2), r.3), r.4)
build-content_size w Bss b n s x =
    (((bits n, low n, x.0.0, x.0.1), x.1), ap (λ q. field (content_size w Bss b) q ∷ filled (content_part w Bss (low n) s) x) (type_longword-whole n (low n) refl))

-- ---- the header of a load file

pub build-header_size : (last room left : ℕ) (sizes : List ℕ) (n : ℕ) (s : List Kind) (x : Filled (push (header_size last room left sizes) n s))
    → Begun (header_size last room left sizes) n s (filled (push (header_size last room left sizes) n s) x)
build-header_size last room zero sizes n s x =
    let r : AllHunks last (low n ∷ sizes) [] s (filled (hunks_due last (reverse_onto (low n ∷ sizes) []) s) x) = hunks-of-reverse_onto last (low n ∷ sizes) [] s x in (
      ((record { memory_bits = bits n; size = low n; hunk = r.0.0 }, [], refl, r.0.1), r.1),
      ap (λ q. field (header_size last room zero sizes) q ∷ hunks_before last (low n ∷ sizes) r.0 (filled s r.1)) (type_longword-whole n (low n) refl)
          ∙ ap (λ q. field (header_size last room zero sizes) n ∷ q) r.2,
    )
build-header_size last room (suc left) sizes n s x =
    let h = x.0.0 in
    let others = x.0.1 in (
      ((record { memory_bits = bits n; size = low n; hunk = x.0.3.0 }, h ∷ others, ap (λ q. suc q) x.0.2, x.0.3.1), x.1),
      ap (λ q. field (header_size last room (suc q) sizes) (type_longword (bits n) (low n)) ∷ filled (header_size last (room - low n) left (low n ∷ sizes) ∷ s) x) x.0.2
          ∙ ap (λ q. field (header_size last room (suc left) sizes) q ∷ filled (header_size last (room - low n) left (low n ∷ sizes) ∷ s) x) (type_longword-whole n (low n) refl),
    )

pub build-table_size : (n : ℕ) (s : List Kind) → 1 ≤ n → (x : Filled (push table_size n s)) → Begun table_size n s (filled (push table_size n s) x)
build-table_size zero s positive x = absurd (omega (arith, positive))
build-table_size (suc n) s positive x =
    let h = x.1.1.0.0 in
    let others = x.1.1.0.1 in (
      ((h, others), x.1.1.1),
      ap (λ q. field table_size (suc q) ∷ field first_hunk 0 ∷ field (last_hunk q) q ∷ sizes_at q (2 ^ 24) [] (h ∷ others) (load_hunks q (h ∷ others) (filled s x.1.1.1))) x.1.1.0.2,
    )

pub build-load_start : (n : ℕ) (s : List Kind) → low n ≡ 1011 → (x : Filled (push load_start n s)) → Begun load_start n s (filled (push load_start n s) x)
build-load_start n s is x =
    ((record { type_bits = bits n; first = x.1.0.0; others = x.1.0.1 }, x.1.1), ap (λ q. field load_start q ∷ filled (push load_start n s) x) (type_longword-whole n 1011 is))
