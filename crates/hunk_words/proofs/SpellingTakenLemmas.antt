-- What is spelled is taken: a lemma for each part of a tree, with the premise that what comes after
-- it is taken.
use Rattle.std.proofs.Common.{◌≡◌, ℕ, zero, suc, ◌-◌, ◌^◌, ◌<◌, List, [], ◌∷◌, length, map, Option, Some, None, Bool, true, false, refl, ap, sym, subst, ◌∙◌, arith, rules}
use Rattle.hunk_words.specs.Kinds.{Within, Kind, Field, field, width, low, bits, type_of, entry_of, entry_type, entry_length, flip, half_after, content_bits, site_limit}
use Rattle.hunk_words.specs.FaultTable.{Passes, AllPass, may_follow, reject_unless, refused_type, knows_short}
use Rattle.hunk_words.specs.Kinds.Width.{long}
use Rattle.hunk_words.specs.Kinds.Within.{in_unit, in_load}
use Rattle.hunk_words.specs.Kinds.Kind.{object_start, load_start, unit_type, hunk_type, content_type, block_type, unit_length, name_length, word, content_size, reloc_count, offset, debug_length, ext_entry, ref_offset, symbol_entry, header_size, short_count}
use Rattle.hunk_words.specs.declared.kinds.Half.{Half}
use Rattle.hunk_words.specs.declared.kinds.Half.TheVariants.{Upper as upper, Lower as lower}
use Rattle.hunk_words.specs.declared.kinds.HunkKind.{HunkKind}
use Rattle.hunk_words.specs.declared.kinds.HunkKind.TheVariants.{Code, Data, Bss}
use Rattle.hunk_words.specs.declared.kinds.BlockType.{BlockType}
use Rattle.hunk_words.specs.declared.kinds.BlockType.TheVariants.{Name as name, Content as content, Reloc as reloc, Ext as ext, Symbol as symbol, Debug as debug, End as end, Short as short}
use Rattle.hunk_words.specs.declared.kinds.EntryType.{EntryType}
use Rattle.hunk_words.specs.declared.kinds.EntryType.TheVariants.{Definition as definition, Absolute as absolute, Reference as reference}
use Rattle.hunk_base.specs.declared.fault.Reason.{Reason}
use Rattle.hunk_words.specs.Trees.{Group, ExtTree, SymbolTree, BlockTree, ContentTree, BodyTree, NameTree, HunkTree, UnitTree, ObjectTree, LoadHunkTree, LoadTree}
use Rattle.hunk_words.specs.Trees.ExtTree.{ext_def, ext_abs, ext_ref}
use Rattle.hunk_words.specs.Trees.BlockTree.{reloc_tree, short_tree, ext_tree, symbol_tree, debug_tree}
use Rattle.hunk_words.specs.Trees.ContentTree.{code_tree, data_tree, bss_tree}
use Rattle.hunk_words.specs.Spelling.{joined_bits, type_longword, each, groups, short_offsets, short_groups, entries, symbols, block, blocks_end, content_then, body, hunk_at, unit_hunks, units, object_spelling, sizes_at, load_hunks, load_spelling, ObjectFits, LoadFits}
use Rattle.hunk_words.specs.Machine.{times, short_times, reverse_onto, hunks_due, unit_part, hunk_part, block_part, content_part, entry_part, push, Takes}
use Rattle.hunk_words.proofs.SpellingBitLemmas.{joined_bits-mod, joined_bits-div, type_longword-low, type_longword-bits, type_longword-type, long-fits}
use Rattle.hunk_words.proofs.KindsTypeLemmas.{type-unit, type-name, type-code, type-data, type-bss, type-reloc, type-ext, type-symbol, type-debug, type-end, type-short, entry-definition, entry-absolute, entry-reference}

-- ---- words, names and offsets

pub takes-each : (k : Kind) → ((n : ℕ) (s : List Kind) → push k n s ≡ s) → (ns : List ℕ) (rest : List Field) (s e : List Kind)
    → AllPass (each k ns rest) → (AllPass rest → Takes s rest e) → Takes (times (length ns) k s) (each k ns rest) e
takes-each k keeps [] rest s e p next = next p
takes-each k keeps (n ∷ ns) rest s e p next =
    (refl, p.0, subst (λ q. Takes q (each k ns rest) e) (sym (keeps n (times (length ns) k s))) (takes-each k keeps ns rest s e p.1 next))

pub takes-words : (ns : List ℕ) (rest : List Field) (s e : List Kind) → AllPass (each word ns rest) → (AllPass rest → Takes s rest e) → Takes (times (length ns) word s) (each word ns rest) e
takes-words ns rest s e p next = takes-each word (λ n s. refl) ns rest s e p next

-- ---- blocks

pub takes-groups : (w : Within) (limit : ℕ) (gs : List Group) (rest : List Field) (s e : List Kind)
    → AllPass (groups w limit gs rest) → (AllPass rest → Takes s rest e) → Takes (reloc_count w limit ∷ s) (groups w limit gs rest) e
takes-groups w limit [] rest s e p next = (refl, p.0, next p.1)
takes-groups w limit (g ∷ gs) rest s e p next =
    (refl, p.0, (refl, p.1.0, (refl, p.1.1.0, takes-each (offset limit g.target) (λ n s. refl) g.others (groups w limit gs rest) (reloc_count w limit ∷ s) e p.1.1.1 (λ q. takes-groups w limit gs rest s e q next))))

pub takes-short-offsets : (h : Half) (limit target : ℕ) (ns : List ℕ) (rest : List Field) (s e : List Kind)
    → AllPass (short_offsets h limit target ns rest) → (AllPass rest → Takes s rest e) → Takes (short_times (length ns) h limit target s) (short_offsets h limit target ns rest) e
takes-short-offsets h limit target [] rest s e p next = next p
takes-short-offsets h limit target (n ∷ ns) rest s e p next = (refl, p.0, takes-short-offsets (flip h) limit target ns rest s e p.1 next)

pub takes-short-groups : (h : Half) (last limit : ℕ) (gs : List Group) (pad : ℕ) (rest : List Field) (s e : List Kind)
    → AllPass (short_groups h last limit gs pad rest) → (AllPass rest → Takes s rest e) → Takes (short_count h last limit ∷ s) (short_groups h last limit gs pad rest) e
takes-short-groups upper last limit [] pad rest s e p next = (refl, p.0, (refl, p.1.0, next p.1.1))
takes-short-groups lower last limit [] pad rest s e p next = (refl, p.0, next p.1)
takes-short-groups upper last limit (g ∷ gs) pad rest s e p next = (
  refl,
  p.0,
  (
    refl,
    p.1.0,
    (
      refl,
      p.1.1.0,
      takes-short-offsets lower limit g.target g.others
          (short_groups (half_after (suc (length g.others)) upper) last limit gs pad rest) (short_count (half_after (suc (length g.others)) upper) last limit ∷ s) e p.1.1.1
          (λ q. takes-short-groups (half_after (suc (length g.others)) upper) last limit gs pad rest s e q next),
    ),
  ),
)
takes-short-groups lower last limit (g ∷ gs) pad rest s e p next = (
  refl,
  p.0,
  (
    refl,
    p.1.0,
    (
      refl,
      p.1.1.0,
      takes-short-offsets upper limit g.target g.others
          (short_groups (half_after (suc (length g.others)) lower) last limit gs pad rest) (short_count (half_after (suc (length g.others)) lower) last limit ∷ s) e p.1.1.1
          (λ q. takes-short-groups (half_after (suc (length g.others)) lower) last limit gs pad rest s e q next),
    ),
  ),
)

-- an entry's first longword is not zero
push-entry : (limit n : ℕ) (s : List Kind) (y : EntryType) (m : ℕ) → 0 < n → entry_of n ≡ y → entry_length n ≡ m → push (ext_entry limit) n s ≡ entry_part limit y m s
push-entry limit zero s y m h is len = absurd (omega (arith, h))
push-entry limit (suc n) s y m h is len = ap (λ x. entry_part limit x (entry_length (suc n)) s) is ∙ ap (λ x. entry_part limit y x s) len

entry-positive : (n t : ℕ) → entry_type n ≡ suc t → 0 < n
entry-positive zero t h = absurd (omega (arith, h))
entry-positive (suc n) t h = omega arith

-- an entry of this type with a name of this length
takes-entry : (limit t m : ℕ) (y : EntryType) (s : List Kind) (fs : List Field) (e : List Kind)
    → ((n : ℕ) → entry_type n ≡ suc t → entry_of n ≡ y) → Passes (ext_entry limit) (joined_bits (2 ^ 24) (suc t) m)
    → Takes (entry_part limit y m s) fs e → Takes (ext_entry limit ∷ s) (field (ext_entry limit) (joined_bits (2 ^ 24) (suc t) m) ∷ fs) e
takes-entry limit t m y s fs e is p next =
    let high : entry_type (joined_bits (2 ^ 24) (suc t) m) ≡ suc t = joined_bits-div (2 ^ 24) (suc t) m p.fits in
    (refl, p, subst (λ q. Takes q fs e) (sym (push-entry limit (joined_bits (2 ^ 24) (suc t) m) s y m (entry-positive _ t high) (is _ high) (joined_bits-mod (2 ^ 24) (suc t) m p.fits))) next)

pub takes-entries : (limit : ℕ) (xs : List ExtTree) (rest : List Field) (s e : List Kind)
    → AllPass (entries limit xs rest) → (AllPass rest → Takes s rest e) → Takes (ext_entry limit ∷ s) (entries limit xs rest) e
takes-entries limit [] rest s e p next = (refl, p.0, next p.1)
takes-entries limit (ext_def n at ∷ xs) rest s e p next =
    takes-entry limit 0 (length n) definition s _ e entry-definition p.0 (takes-words n _ _ e p.1 (λ q. (refl, q.0, takes-entries limit xs rest s e q.1 next)))
takes-entries limit (ext_abs n amount ∷ xs) rest s e p next =
    takes-entry limit 1 (length n) absolute s _ e entry-absolute p.0 (takes-words n _ _ e p.1 (λ q. (refl, q.0, takes-entries limit xs rest s e q.1 next)))
takes-entries limit (ext_ref n offsets ∷ xs) rest s e p next =
    takes-entry limit 128 (length n) reference s _ e entry-reference p.0 (takes-words n _ _ e p.1
    (λ q. (refl, q.0, takes-each (ref_offset limit) (λ m t. refl) offsets _ _ e q.1 (λ r. takes-entries limit xs rest s e r next))))

pub takes-symbols : (xs : List SymbolTree) (rest : List Field) (s e : List Kind)
    → AllPass (symbols xs rest) → (AllPass rest → Takes s rest e) → Takes (symbol_entry ∷ s) (symbols xs rest) e
takes-symbols [] rest s e p next = (refl, p.0, next p.1)
takes-symbols (x ∷ xs) rest s e p next =
    (refl, p.0, (refl, p.1.0, takes-words x.others _ _ e p.1.1 (λ q. (refl, q.0, takes-symbols xs rest s e q.1 next))))

-- a block's type longword
takes-type : (w : Within) (limit b t : ℕ) (y : BlockType) (s : List Kind) (fs : List Field) (e : List Kind)
    → type_of t ≡ y → Passes (block_type w limit) (type_longword b t) → Takes (block_part w limit y s) fs e
    → Takes (block_type w limit ∷ s) (field (block_type w limit) (type_longword b t) ∷ fs) e
takes-type w limit b t y s fs e is p next =
    (refl, p, subst (λ q. Takes (block_part w limit q s) fs e) (sym (type_longword-type b t is p.fits)) next)

reject_unless-false : (b : Bool) (r : Reason) → b ≡ false → reject_unless b r ≡ None → ⊥
reject_unless-false true r h p = search rules
reject_unless-false false r h p = search rules

-- there is no EXT in a load file, and no short block in a unit
refuses : (w : Within) (limit b t : ℕ) (y : BlockType) → type_of t ≡ y → may_follow w y ≡ false → Passes (block_type w limit) (type_longword b t) → ⊥
refuses w limit b t y is not p =
    reject_unless-false (may_follow w (type_of (low (type_longword b t)))) (refused_type (knows_short w) (type_of (low (type_longword b t))) (low (type_longword b t))) (ap (λ x. may_follow w x) (type_longword-type b t is p.fits) ∙ not) p.passes

pub takes-block : (w : Within) (limit : ℕ) (x : BlockTree) (rest : List Field) (s e : List Kind)
    → AllPass (block w limit x rest) → (AllPass rest → Takes (block_type w limit ∷ s) rest e) → Takes (block_type w limit ∷ s) (block w limit x rest) e
takes-block w limit (reloc_tree b gs) rest s e p next = takes-type w limit b 1004 reloc s _ e type-reloc p.0 (takes-groups w limit gs rest _ e p.1 next)
takes-block in_unit limit (short_tree b gs pad) rest s e p next = absurd (refuses in_unit limit b 1020 short type-short refl p.0)
takes-block (in_load last size) limit (short_tree b gs pad) rest s e p next = takes-type (in_load last size) limit b 1020 short s _ e type-short p.0 (takes-short-groups upper last limit gs pad rest _ e p.1 next)
takes-block in_unit limit (ext_tree b xs) rest s e p next = takes-type in_unit limit b 1007 ext s _ e type-ext p.0 (takes-entries limit xs rest _ e p.1 next)
takes-block (in_load last size) limit (ext_tree b xs) rest s e p next = absurd (refuses (in_load last size) limit b 1007 ext type-ext refl p.0)
takes-block w limit (symbol_tree b xs) rest s e p next = takes-type w limit b 1008 symbol s _ e type-symbol p.0 (takes-symbols xs rest _ e p.1 next)
takes-block w limit (debug_tree b ws) rest s e p next = takes-type w limit b 1009 debug s (field debug_length (length ws) ∷ each word ws rest) e type-debug p.0 (refl, p.1.0, takes-words ws rest _ e p.1.1 next)

pub takes-blocks-end : (w : Within) (limit : ℕ) (xs : List BlockTree) (b : ℕ) (rest : List Field) (s e : List Kind)
    → AllPass (blocks_end w limit xs b rest) → (AllPass rest → Takes s rest e) → Takes (block_type w limit ∷ s) (blocks_end w limit xs b rest) e
takes-blocks-end w limit [] b rest s e p next = takes-type w limit b 1010 end s _ e type-end p.0 (next p.1)
takes-blocks-end w limit (x ∷ xs) b rest s e p next = takes-block w limit x _ s e p (λ q. takes-blocks-end w limit xs b rest s e q next)

-- ---- hunks

-- A hunk may begin with a number of kind k: if that is a content block's type, its size is expected
-- on the stack t, and if it is a name's, its length and then the content's type.
pub record Begins (k : Kind) (w : Within) (s t : List Kind) : Type 0 where
  pub is_long : width k ≡ long
  pub content_next : (n : ℕ) (c : HunkKind) → type_of (low n) ≡ content c → push k n s ≡ content_size w c (content_bits w (bits n)) ∷ t
  pub name_next : (n : ℕ) → type_of (low n) ≡ name → push k n s ≡ name_length ∷ content_type w ∷ t

-- a content block's type longword
takes-content-type : (k : Kind) (w : Within) (s t : List Kind) (b n : ℕ) (c : HunkKind) (fs : List Field) (e : List Kind)
    → Begins k w s t → type_of n ≡ content c → Passes k (type_longword b n) → Takes (content_size w c (content_bits w b) ∷ t) fs e
    → Takes (k ∷ s) (field k (type_longword b n) ∷ fs) e
takes-content-type k w s t b n c fs e begins is p next =
    let fits : type_longword b n < 2 ^ 32 = long-fits begins.is_long p in (
      refl,
      p,
      subst (λ q. Takes q fs e) (sym (begins.content_next (type_longword b n) c (type_longword-type b n is fits)))
          (subst (λ q. Takes (content_size w c (content_bits w q) ∷ t) fs e) (sym (type_longword-bits b n fits)) next),
    )

-- the size of CODE or DATA, and its words
takes-stored : (w : Within) (c : HunkKind) (b m : ℕ) (ws : List ℕ) (fs : List Field) (s e : List Kind)
    → ((n : ℕ) (s : List Kind) → content_part w c n s ≡ times n word (block_type w (site_limit w n) ∷ s))
    → Passes (content_size w c b) (type_longword m (length ws)) → AllPass (each word ws fs)
    → (AllPass fs → Takes (block_type w (site_limit w (length ws)) ∷ s) fs e)
    → Takes (content_size w c b ∷ s) (field (content_size w c b) (type_longword m (length ws)) ∷ each word ws fs) e
takes-stored w c b m ws fs s e is p q next = (
  refl,
  p,
  subst (λ x. Takes x (each word ws fs) e) (sym (ap (λ n. content_part w c n s) (type_longword-low m (length ws) p.fits) ∙ is (length ws) s))
      (takes-words ws fs _ e q next),
)

pub takes-content : (k : Kind) (w : Within) (x : ContentTree) (xs : List BlockTree) (b : ℕ) (rest : List Field) (s t e : List Kind)
    → Begins k w s t → AllPass (content_then k w x xs b rest) → (AllPass rest → Takes t rest e) → Takes (k ∷ s) (content_then k w x xs b rest) e
takes-content k w (code_tree a c ws) xs b rest s t e begins p next =
    takes-content-type k w s t a 1001 Code (field (content_size w Code (content_bits w a)) (type_longword c (length ws)) ∷ each word ws (blocks_end w (site_limit w (length ws)) xs b rest)) e begins type-code p.0
    (takes-stored w Code (content_bits w a) c ws (blocks_end w (site_limit w (length ws)) xs b rest) t e (λ n s. refl) p.1.0 p.1.1 (λ q. takes-blocks-end w _ xs b rest t e q next))
takes-content k w (data_tree a c ws) xs b rest s t e begins p next =
    takes-content-type k w s t a 1002 Data (field (content_size w Data (content_bits w a)) (type_longword c (length ws)) ∷ each word ws (blocks_end w (site_limit w (length ws)) xs b rest)) e begins type-data p.0
    (takes-stored w Data (content_bits w a) c ws (blocks_end w (site_limit w (length ws)) xs b rest) t e (λ n s. refl) p.1.0 p.1.1 (λ q. takes-blocks-end w _ xs b rest t e q next))
takes-content k w (bss_tree a c n) xs b rest s t e begins p next =
    takes-content-type k w s t a 1003 Bss (field (content_size w Bss (content_bits w a)) (type_longword c n) ∷ blocks_end w (site_limit w 0) xs b rest) e begins type-bss p.0 (refl, p.1.0, takes-blocks-end w _ xs b rest t e p.1.1 next)

pub begins-content_type : (w : Within) (s : List Kind) → Begins (content_type w) w s s
begins-content_type w s = record {
  is_long = refl;
  content_next = λ n c is. ap (λ y. hunk_part w y (bits n) s) is;
  name_next = λ n is. ap (λ y. hunk_part w y (bits n) s) is;
}

pub begins-unit_type : (s : List Kind) → Begins unit_type in_unit s (unit_type ∷ s)
begins-unit_type s = record {
  is_long = refl;
  content_next = λ n c is. ap (λ y. unit_part y (bits n) s) is;
  name_next = λ n is. ap (λ y. unit_part y (bits n) s) is;
}

pub begins-hunk_type : (last size : ℕ) (s : List Kind) → Begins (hunk_type last size) (in_load last size) s s
begins-hunk_type last size s = record {
  is_long = refl;
  content_next = λ n c is. ap (λ y. hunk_part (in_load last size) y (bits n) s) is;
  name_next = λ n is. ap (λ y. hunk_part (in_load last size) y (bits n) s) is;
}

pub takes-hunk : (k : Kind) (w : Within) (n : Option NameTree) (x : BodyTree) (rest : List Field) (s t e : List Kind)
    → Begins k w s t → AllPass (hunk_at k w n x rest) → (AllPass rest → Takes t rest e) → Takes (k ∷ s) (hunk_at k w n x rest) e
takes-hunk k w None x rest s t e begins p next = takes-content k w x.content x.blocks x.end_bits rest s t e begins p next
takes-hunk k w (Some n) x rest s t e begins p next =
    let type : type_of (low (type_longword n.type_bits 1000)) ≡ name = type_longword-type n.type_bits 1000 type-name (long-fits begins.is_long p.0) in (
      refl,
      p.0,
      subst (λ q. Takes q (field name_length (length n.words) ∷ each word n.words (body (content_type w) w x rest)) e) (sym (begins.name_next (type_longword n.type_bits 1000) type)) (
        refl,
        p.1.0,
        takes-words n.words _ _ e p.1.1
            (λ q. takes-content (content_type w) w x.content x.blocks x.end_bits rest t t e (begins-content_type w t) q next),
      ),
    )

-- ---- files

pub takes-unit-hunks : (xs : List HunkTree) (rest : List Field) (s e : List Kind)
    → AllPass (unit_hunks xs rest) → (AllPass rest → Takes (unit_type ∷ s) rest e) → Takes (unit_type ∷ s) (unit_hunks xs rest) e
takes-unit-hunks [] rest s e p next = next p
takes-unit-hunks (x ∷ xs) rest s e p next =
    takes-hunk unit_type in_unit x.name x.body _ s (unit_type ∷ s) e (begins-unit_type s) p (λ q. takes-unit-hunks xs rest s e q next)

-- a unit, once its type has passed
takes-unit-rest : (u : UnitTree) (rest : List Field) (s e : List Kind)
    → AllPass (field unit_length (length u.name) ∷ each word u.name (unit_hunks u.hunks rest)) → (AllPass rest → Takes (unit_type ∷ s) rest e)
    → Takes (unit_length ∷ unit_type ∷ s) (field unit_length (length u.name) ∷ each word u.name (unit_hunks u.hunks rest)) e
takes-unit-rest u rest s e p next = (refl, p.0, takes-words u.name _ _ e p.1 (λ q. takes-unit-hunks u.hunks rest s e q next))

pub takes-units : (us : List UnitTree) (s : List Kind) → AllPass (units us []) → Takes (unit_type ∷ s) (units us []) (unit_type ∷ s)
takes-units [] s p = refl
takes-units (u ∷ us) s p = (
  refl,
  p.0,
  subst (λ q. Takes (unit_part q (bits (type_longword u.type_bits 999)) s) (field unit_length (length u.name) ∷ each word u.name (unit_hunks u.hunks (units us []))) (unit_type ∷ s)) (sym (type_longword-type u.type_bits 999 type-unit p.0.fits))
      (takes-unit-rest u (units us []) s (unit_type ∷ s) p.1 (λ q. takes-units us s q)),
)

pub object-taken : (t : ObjectTree) → ObjectFits t → Takes (object_start ∷ []) (object_spelling t) (unit_type ∷ [])
object-taken t p = (refl, p.0, takes-unit-rest t.first (units t.others []) [] (unit_type ∷ []) p.1 (λ q. takes-units t.others [] q))

pub takes-sizes : (last room : ℕ) (before : List ℕ) (x : LoadHunkTree) (xs : List LoadHunkTree) (rest : List Field) (s e : List Kind)
    → AllPass (sizes_at last room before (x ∷ xs) rest) → (AllPass rest → Takes (hunks_due last (reverse_onto before (map (λ y. y.size) (x ∷ xs))) s) rest e)
    → Takes (header_size last room (length xs) before ∷ s) (sizes_at last room before (x ∷ xs) rest) e
takes-sizes last room before x [] rest s e p next =
    (refl, p.0, subst (λ q. Takes (hunks_due last (reverse_onto (q ∷ before) []) s) rest e) (sym (type_longword-low x.memory_bits x.size p.0.fits)) (next p.1))
takes-sizes last room before x (y ∷ ys) rest s e p next = (
  refl,
  p.0,
  subst (λ q. Takes (header_size last (room - q) (length ys) (q ∷ before) ∷ s) (sizes_at last (room - x.size) (x.size ∷ before) (y ∷ ys) rest) e) (sym (type_longword-low x.memory_bits x.size p.0.fits))
      (takes-sizes last (room - x.size) (x.size ∷ before) y ys rest s e p.1 next),
)

pub takes-load-hunks : (last : ℕ) (xs : List LoadHunkTree) → AllPass (load_hunks last xs []) → Takes (hunks_due last (map (λ y. y.size) xs) []) (load_hunks last xs []) []
takes-load-hunks last [] p = refl
takes-load-hunks last (x ∷ xs) p =
    takes-hunk (hunk_type last x.size) (in_load last x.size) x.hunk.name x.hunk.body _ _ _ [] (begins-hunk_type last x.size _) p (λ q. takes-load-hunks last xs q)

pub load-taken : (t : LoadTree) → LoadFits t → Takes (load_start ∷ []) (load_spelling t) []
load-taken t p = (
  refl,
  p.0,
  (
    refl,
    p.1.0,
    (
      refl,
      p.1.1.0,
      (
        refl,
        p.1.1.1.0,
        (
          refl,
          p.1.1.1.1.0,
          takes-sizes (length t.others) (2 ^ 24) [] t.first t.others _ [] [] p.1.1.1.1.1 (λ q. takes-load-hunks (length t.others) (t.first ∷ t.others) q),
        ),
      ),
    ),
  ),
)
