-- The events of the blocks and hunks of a load file, if each of their numbers passes and their
-- sites obey the rules, and the number of longwords they take.
use Rattle.std.proofs.Common.{◌≡◌, ℕ, suc, ◌+◌, ◌-◌, ◌*◌, ◌^◌, ◌<◌, ◌≤◌, ◌==◌, Bool, true, false, List, [], ◌∷◌, ◌++◌, length, sum_by, Option, Some, None, nat_le, if◌then◌else◌, refl, sym, subst, arith}
use Rattle.std.specs.List.{AllByRecursion}
use Rattle.std.proofs.lemmas.Bool.{eqb-true, leb-true}
use Rattle.std.proofs.lemmas.List.Sums.{sum_by-append, sum_by-cons}
use Rattle.hunk_words.specs.Kinds.{Kind, Field, Width, field, flip, half_after, low, type_of, width, entry_type}
use Rattle.hunk_words.specs.FaultTable.{Passes, AllPass, reject_unless, and_then, may_follow, refused_type}
use Rattle.hunk_words.specs.Kinds.Width.{long, half}
use Rattle.hunk_words.specs.Kinds.Within.{in_load}
use Rattle.hunk_words.specs.Kinds.Kind.{content_type, block_type, hunk_type, word, value, content_size, offset, debug_length, short_offset}
use Rattle.hunk_words.specs.SiteRules.{Obeys, all_apart, seen_after, seen_at, site_judged}
use Rattle.hunk_words.specs.Spelling.{block, blocks_end, content_then, each, groups, hunk_at, load_hunks, short_groups, short_offsets, sizes_at, symbols, type_longword}
use Rattle.hunk_words.specs.Trees.{BlockTree, ContentTree, Group, HunkTree, LoadHunkTree, NameTree, SymbolTree}
use Rattle.hunk_words.specs.Trees.BlockTree.{reloc_tree, short_tree, ext_tree, symbol_tree, debug_tree}
use Rattle.hunk_words.specs.Trees.ContentTree.{code_tree, data_tree, bss_tree}
use Rattle.hunk_words.specs.Values.{Adds, Hunk, HunkTables, merged, tables_of_block, tables_of_blocks, content_value, tables_of_groups, hunk_value, name_words, no_tables, one_site, one_symbol, tables_of_sites, tables_of_symbols}
use Rattle.hunk_words.specs.Values.Adds.{to_hunk, to_reference}
use Rattle.hunk_words.specs.FieldLongwords.{longwords_after}
use Rattle.hunk_base.specs.declared.fault.Reason.{Reason}
use Rattle.hunk_base.specs.declared.fault.Reason.TheVariants.{ContentTooLong, NoSuchHunk, SiteOutside, SiteOverlap, SymbolKind, TooLarge}
use Rattle.hunk_words.specs.declared.kinds.BlockType.{BlockType}
use Rattle.hunk_words.specs.declared.kinds.BlockType.TheVariants.{Reloc as reloc, Ext as ext, Symbol as symbol, Debug as debug, End as end, Short as short}
use Rattle.hunk_words.specs.declared.kinds.HunkKind.{HunkKind}
use Rattle.hunk_words.specs.declared.kinds.HunkKind.TheVariants.{Code, Data, Bss}
use Rattle.hunk_words.specs.declared.kinds.Half.{Half}
use Rattle.hunk_words.specs.declared.kinds.Half.TheVariants.{Upper as upper, Lower as lower}
use Rattle.hunk_words.proofs.FaultTableLemmas.{reject_unless-none}
use Rattle.hunk_words.proofs.SpellingBitLemmas.{type_longword-low, type_longword-type}
use Rattle.hunk_words.proofs.KindsTypeLemmas.{type-reloc, type-ext, type-symbol, type-debug, type-end, type-short}
use Rattle.hunk_loadfile.specs.Rules.{IsLongword, debug_longwords}

-- ---- fields

abbrev weight : Width → ℕ
weight long = 1
weight (half h) = 0

-- the fields that take a longword of their own
abbrev pub long_count : List Field → ℕ
long_count [] = 0
long_count (f ∷ fs) = weight (width f.kind) + long_count fs

-- the longwords from a field of this width on
abbrev longwords_by : Width → ℕ → List Field → List ℕ
longwords_by v n fs = elim v [ long ↦ n ∷ longwords_after None fs | half h ↦ longwords_after (Some n) fs ]

-- there are at least as many longwords
pub long_count-le : (before : Option ℕ) (fs : List Field) → long_count fs ≤ length (longwords_after before fs)
long_count-le None [] = omega arith
long_count-le (Some m) [] = omega arith
long_count-le None (f ∷ fs) = go (width f.kind) (long_count-le None fs) (long_count-le (Some f.number) fs)
  where
    go : (v : Width) → long_count fs ≤ length (longwords_after None fs) → long_count fs ≤ length (longwords_after (Some f.number) fs)
        → weight v + long_count fs ≤ length (longwords_by v f.number fs)
    go long none some = omega arith
    go (half h) none some = omega arith
long_count-le (Some m) (f ∷ fs) = go (width f.kind) (long_count-le None fs)
  where
    go : (v : Width) → long_count fs ≤ length (longwords_after None fs) → weight v + long_count fs ≤ suc (length (longwords_after None fs))
    go long none = omega arith
    go (half h) none = omega arith

-- ---- what fields mean

-- a site within the limit, apart from those seen, that adds the base of a hunk up to the last one
abbrev pub SiteFits : (last limit : ℕ) → List ℕ → ℕ → Adds → Type 0
SiteFits last limit seen o (to_hunk t) = (o + 4 ≤ limit) × (all_apart o seen ≡ true) × (t ≤ last)
SiteFits last limit seen o (to_reference r) = ⊥

abbrev pub SitesFit : (last limit : ℕ) → List ℕ → List (ℕ × Adds) → Type 0
SitesFit last limit seen [] = Unit {0}
SitesFit last limit seen (s ∷ ss) = SiteFits last limit seen s.0 s.1 × SitesFit last limit (s.0 ∷ seen) ss

-- the offsets seen after these sites
abbrev pub seen_with : List ℕ → List (ℕ × Adds) → List ℕ
seen_with seen [] = seen
seen_with seen (s ∷ ss) = seen_with (s.0 ∷ seen) ss

-- a symbol's name has at least one longword, and fewer than 2^24
pub record SymbolFits (s : List ℕ × ℕ) : Type 0 where
  pub some : 1 ≤ length s.0
  pub few : length s.0 < 2 ^ 24
  pub value : IsLongword s.1

pub record TablesFit (last limit : ℕ) (seen : List ℕ) (t : HunkTables) : Type 0 where
  pub sites : SitesFit last limit seen t.sites
  pub symbols : AllByRecursion SymbolFits t.symbols
  pub debugs : AllByRecursion (λ ws. AllByRecursion IsLongword ws) t.debugs

abbrev pub symbol_count : List ℕ × ℕ → ℕ
symbol_count s = 2 + length s.0

-- the longwords of symbols and debug blocks
abbrev pub told_count : HunkTables → ℕ
told_count t = sum_by symbol_count t.symbols + sum_by debug_longwords t.debugs

SitesFit-append : (last limit : ℕ) (seen : List ℕ) (xs ys : List (ℕ × Adds)) → SitesFit last limit seen xs → SitesFit last limit (seen_with seen xs) ys → SitesFit last limit seen (xs ++ ys)
SitesFit-append last limit seen [] ys a b = b
SitesFit-append last limit seen (x ∷ xs) ys a b = (a.0, SitesFit-append last limit (x.0 ∷ seen) xs ys a.1 b)

seen_with-append : (seen : List ℕ) (xs ys : List (ℕ × Adds)) → seen_with seen (xs ++ ys) ≡ seen_with (seen_with seen xs) ys
seen_with-append seen [] ys = refl
seen_with-append seen (x ∷ xs) ys = seen_with-append (x.0 ∷ seen) xs ys

recursion-append : {X : Type 0} (P : X → Type 0) (xs ys : List X) → AllByRecursion P xs → AllByRecursion P ys → AllByRecursion P (xs ++ ys)
recursion-append P [] ys a b = b
recursion-append P (x ∷ xs) ys a b = (a.0, recursion-append P xs ys a.1 b)

TablesFit-merged : (last limit : ℕ) (seen : List ℕ) (a b : HunkTables) → TablesFit last limit seen a → TablesFit last limit (seen_with seen a.sites) b → TablesFit last limit seen (merged a b)
TablesFit-merged last limit seen a b x y = record {
  sites = SitesFit-append last limit seen a.sites b.sites x.sites y.sites;
  symbols = recursion-append SymbolFits a.symbols b.symbols x.symbols y.symbols;
  debugs = recursion-append (λ ws. AllByRecursion IsLongword ws) a.debugs b.debugs x.debugs y.debugs;
}

told_count-merged : (a b : HunkTables) → told_count (merged a b) ≡ told_count a + told_count b
told_count-merged a b = omega (arith, sum_by-append symbol_count a.symbols b.symbols, sum_by-append debug_longwords a.debugs b.debugs)

-- ---- blocks

-- The fields before begin with some that mean this, and the rest passes and obeys the rules too.
record Tells (last limit : ℕ) (seen : List ℕ) (t : HunkTables) (rest before : List Field) : Type 0 where
  told : TablesFit last limit seen t
  pass : AllPass rest
  obey : Obeys (seen_with seen t.sites) rest
  count : told_count t + long_count rest ≤ long_count before

with_tables-none : (last limit : ℕ) (seen : List ℕ) (rest : List Field) → AllPass rest → Obeys seen rest → Tells last limit seen no_tables rest rest
with_tables-none last limit seen rest p o = record { told = record { sites = tt; symbols = tt; debugs = tt }; pass = p; obey = o; count = omega arith }

-- one more field, which adds nothing
with_tables-field : (last limit : ℕ) (seen : List ℕ) (t : HunkTables) (rest : List Field) (f : Field) (fs : List Field) → Tells last limit seen t rest fs → Tells last limit seen t rest (f ∷ fs)
with_tables-field last limit seen t rest f fs h = record { told = h.told; pass = h.pass; obey = h.obey; count = omega (arith, h.count) }

with_tables-merged : (last limit : ℕ) (seen : List ℕ) (a b : HunkTables) (rest between before : List Field)
    → Tells last limit seen a between before → Tells last limit (seen_with seen a.sites) b rest between → Tells last limit seen (merged a b) rest before
with_tables-merged last limit seen a b rest between before x y = record {
  told = TablesFit-merged last limit seen a b x.told y.told;
  pass = y.pass;
  obey = subst (λ s. Obeys s rest) (sym (seen_with-append seen a.sites b.sites)) y.obey;
  count = omega (arith, told_count-merged a b, x.count, y.count);
}

-- the rules for sites, passed
site-fits : (limit : ℕ) (seen : List ℕ) (o : ℕ) → site_judged (Some limit) seen o ≡ None → (o + 4 ≤ limit) × (all_apart o seen ≡ true)
site-fits limit seen o h = let both = go (nat_le (o + 4) limit) h in (leb-true (o + 4) limit both.0, reject_unless-none (all_apart o seen) (SiteOverlap o) both.1)
  where
    go : (b : Bool) → (if b then reject_unless (all_apart o seen) (SiteOverlap o) else Some (SiteOutside o)) ≡ None → (b ≡ true) × (reject_unless (all_apart o seen) (SiteOverlap o) ≡ None)
    go true e = (refl, e)
    go false e = absurd (cc)

with_tables-site : (last limit : ℕ) (seen : List ℕ) (o t : ℕ) (rest : List Field) (f : Field)
    → t ≤ last → site_judged (Some limit) seen o ≡ None → AllPass rest → Obeys (o ∷ seen) rest → Tells last limit seen (one_site o (to_hunk t)) rest (f ∷ rest)
with_tables-site last limit seen o t rest f within judges p obeys =
    let fits = site-fits limit seen o judges in
    record { told = record { sites = ((fits.0, fits.1, within), tt); symbols = tt; debugs = tt }; pass = p; obey = obeys; count = omega arith }

with_tables-offsets : (last limit target : ℕ) (ns : List ℕ) (rest : List Field) (seen : List ℕ) → target ≤ last
    → AllPass (each (offset limit target) ns rest) → Obeys seen (each (offset limit target) ns rest)
    → Tells last limit seen (tables_of_sites ns (to_hunk target)) rest (each (offset limit target) ns rest)
with_tables-offsets last limit target [] rest seen within p o = with_tables-none last limit seen rest p o
with_tables-offsets last limit target (n ∷ ns) rest seen within p o =
    let behind = each (offset limit target) ns rest in
    with_tables-merged last limit seen (one_site n (to_hunk target)) (tables_of_sites ns (to_hunk target)) rest behind _
    (with_tables-site last limit seen n target behind (field (offset limit target) n) within o.0 p.1 o.1)
    (with_tables-offsets last limit target ns rest (n ∷ seen) within p.1 o.1)

with_tables-groups : (last size limit : ℕ) (gs : List Group) (rest : List Field) (seen : List ℕ)
    → AllPass (groups (in_load last size) limit gs rest) → Obeys seen (groups (in_load last size) limit gs rest)
    → Tells last limit seen (tables_of_groups gs) rest (groups (in_load last size) limit gs rest)
with_tables-groups last size limit [] rest seen p o = with_tables-field last limit seen no_tables rest _ rest (with_tables-none last limit seen rest p.1 o.1)
with_tables-groups last size limit (g ∷ gs) rest seen p o =
    let within : g.target ≤ last = leb-true g.target last (reject_unless-none (nat_le g.target last) (NoSuchHunk g.target) p.1.0.passes) in
    let sites = tables_of_sites (g.first ∷ g.others) (to_hunk g.target) in
    let behind = groups (in_load last size) limit gs rest in
    let here = with_tables-offsets last limit g.target (g.first ∷ g.others) behind seen within p.1.1 o.1.1 in
    let counted = with_tables-field last limit seen sites behind _ _ (with_tables-field last limit seen sites behind _ _ here) in
    with_tables-merged last limit seen sites (tables_of_groups gs) rest behind _ counted (with_tables-groups last size limit gs rest (seen_with seen sites.sites) here.pass here.obey)

with_tables-short-offsets : (h : Half) (last limit target : ℕ) (ns : List ℕ) (rest : List Field) (seen : List ℕ) → target ≤ last
    → AllPass (short_offsets h limit target ns rest) → Obeys seen (short_offsets h limit target ns rest)
    → Tells last limit seen (tables_of_sites ns (to_hunk target)) rest (short_offsets h limit target ns rest)
with_tables-short-offsets h last limit target [] rest seen within p o = with_tables-none last limit seen rest p o
with_tables-short-offsets h last limit target (n ∷ ns) rest seen within p o =
    let behind = short_offsets (flip h) limit target ns rest in
    with_tables-merged last limit seen (one_site n (to_hunk target)) (tables_of_sites ns (to_hunk target)) rest behind _
    (with_tables-site last limit seen n target behind (field (short_offset h limit target) n) within o.0 p.1 o.1)
    (with_tables-short-offsets (flip h) last limit target ns rest (n ∷ seen) within p.1 o.1)

with_tables-short-groups : (h : Half) (last limit : ℕ) (gs : List Group) (pad : ℕ) (rest : List Field) (seen : List ℕ)
    → AllPass (short_groups h last limit gs pad rest) → Obeys seen (short_groups h last limit gs pad rest)
    → Tells last limit seen (tables_of_groups gs) rest (short_groups h last limit gs pad rest)
with_tables-short-groups upper last limit [] pad rest seen p o =
    with_tables-field last limit seen no_tables rest _ _ (with_tables-field last limit seen no_tables rest _ rest (with_tables-none last limit seen rest p.1.1 o.1.1))
with_tables-short-groups lower last limit [] pad rest seen p o = with_tables-field last limit seen no_tables rest _ rest (with_tables-none last limit seen rest p.1 o.1)
with_tables-short-groups h last limit (g ∷ gs) pad rest seen p o =
    let within : g.target ≤ last = leb-true g.target last (reject_unless-none (nat_le g.target last) (NoSuchHunk g.target) p.1.0.passes) in
    let sites = tables_of_sites (g.first ∷ g.others) (to_hunk g.target) in
    let behind = short_groups (half_after (suc (length g.others)) h) last limit gs pad rest in
    let here = with_tables-short-offsets (flip (flip h)) last limit g.target (g.first ∷ g.others) behind seen within p.1.1 o.1.1 in
    let counted = with_tables-field last limit seen sites behind _ _ (with_tables-field last limit seen sites behind _ _ here) in
    with_tables-merged last limit seen sites (tables_of_groups gs) rest behind _ counted
    (with_tables-short-groups (half_after (suc (length g.others)) h) last limit gs pad rest (seen_with seen sites.sites) here.pass here.obey)

-- words, and what comes after them
record Words (seen ws : List ℕ) (rest : List Field) : Type 0 where
  longs : AllByRecursion IsLongword ws
  pass : AllPass rest
  obey : Obeys seen rest
  count : length ws + long_count rest ≡ long_count (each word ws rest)

words-each : (ws : List ℕ) (rest : List Field) (seen : List ℕ) → AllPass (each word ws rest) → Obeys seen (each word ws rest) → Words seen ws rest
words-each [] rest seen p o = record { longs = tt; pass = p; obey = o; count = omega arith }
words-each (w ∷ ws) rest seen p o =
    let behind = words-each ws rest seen p.1 o.1 in
    record { longs = (p.0.fits, behind.longs); pass = behind.pass; obey = behind.obey; count = omega (arith, behind.count) }

with_tables-symbols : (last limit : ℕ) (xs : List SymbolTree) (rest : List Field) (seen : List ℕ)
    → AllPass (symbols xs rest) → Obeys seen (symbols xs rest) → Tells last limit seen (tables_of_symbols xs) rest (symbols xs rest)
with_tables-symbols last limit [] rest seen p o = with_tables-field last limit seen no_tables rest _ rest (with_tables-none last limit seen rest p.1 o.1)
with_tables-symbols last limit (x ∷ xs) rest seen p o =
    let name = x.first ∷ x.others in
    let behind = symbols xs rest in
    let words = words-each name (field value x.amount ∷ behind) seen p.1 o.1 in
    let kind : entry_type (suc (length x.others)) ≡ 0 = eqb-true _ 0 (reject_unless-none (entry_type (suc (length x.others)) == 0) (SymbolKind (entry_type (suc (length x.others)))) p.0.passes) in
    let fits : SymbolFits (name, x.amount) = record { some = omega arith; few = omega (arith, kind); value = words.pass.0.fits } in
    let here : Tells last limit seen (one_symbol name x.amount) behind (symbols (x ∷ xs) rest) =
    record { told = record { sites = tt; symbols = (fits, tt); debugs = tt }; pass = words.pass.1; obey = words.obey.1; count = omega (arith, words.count) } in
    with_tables-merged last limit seen (one_symbol name x.amount) (tables_of_symbols xs) rest behind _ here (with_tables-symbols last limit xs rest seen here.pass here.obey)

-- after a block's type longword
behind-type : (last size limit b t : ℕ) (y : BlockType) (seen : List ℕ) (fs : List Field) → type_of t ≡ y
    → AllPass (field (block_type (in_load last size) limit) (type_longword b t) ∷ fs) → Obeys seen (field (block_type (in_load last size) limit) (type_longword b t) ∷ fs) → Obeys (seen_at y seen) fs
behind-type last size limit b t y seen fs is p o = subst (λ q. Obeys (seen_at q seen) fs) (type_longword-type b t is p.0.fits) o.1

-- there is no EXT in a load file
no-ext : (last size limit b : ℕ) → Passes (block_type (in_load last size) limit) (type_longword b 1007) → ⊥
no-ext last size limit b p =
    let t : BlockType = type_of (low (type_longword b 1007)) in
    let follows = reject_unless-none (may_follow (in_load last size) t) (refused_type true t (low (type_longword b 1007))) p.passes in
    let wrong : may_follow (in_load last size) ext ≡ true = subst (λ q. may_follow (in_load last size) q ≡ true) (type_longword-type b 1007 type-ext p.fits) follows in
    cc

with_tables-block : (last size limit r : ℕ) (x : BlockTree) (rest : List Field) (seen : List ℕ)
    → AllPass (block (in_load last size) limit x rest) → Obeys seen (block (in_load last size) limit x rest)
    → Tells last limit seen (tables_of_block r x) rest (block (in_load last size) limit x rest)
with_tables-block last size limit r (reloc_tree b gs) rest seen p o =
    with_tables-field last limit seen (tables_of_groups gs) rest _ _ (with_tables-groups last size limit gs rest seen p.1 (behind-type last size limit b 1004 reloc seen _ type-reloc p o))
with_tables-block last size limit r (short_tree b gs pad) rest seen p o =
    with_tables-field last limit seen (tables_of_groups gs) rest _ _ (with_tables-short-groups upper last limit gs pad rest seen p.1 (behind-type last size limit b 1020 short seen _ type-short p o))
with_tables-block last size limit r (ext_tree b es) rest seen p o = absurd (no-ext last size limit b p.0)
with_tables-block last size limit r (symbol_tree b xs) rest seen p o =
    with_tables-field last limit seen (tables_of_symbols xs) rest _ _ (with_tables-symbols last limit xs rest seen p.1 (behind-type last size limit b 1008 symbol seen _ type-symbol p o))
with_tables-block last size limit r (debug_tree b ws) rest seen p o =
    let words = words-each ws rest seen p.1.1 (behind-type last size limit b 1009 debug seen (field debug_length (length ws) ∷ each word ws rest) type-debug p o).1 in
    record { told = record { sites = tt; symbols = tt; debugs = (words.longs, tt) }; pass = words.pass; obey = words.obey; count = omega (arith, words.count) }

-- ---- hunks

-- the same up to the END of a hunk, after which no site is seen
record TellsAll (last limit : ℕ) (seen : List ℕ) (t : HunkTables) (rest before : List Field) : Type 0 where
  told : TablesFit last limit seen t
  pass : AllPass rest
  obey : Obeys [] rest
  count : told_count t + long_count rest ≤ long_count before

with_tables-blocks : (last size limit r : ℕ) (xs : List BlockTree) (b : ℕ) (rest : List Field) (seen : List ℕ)
    → AllPass (blocks_end (in_load last size) limit xs b rest) → Obeys seen (blocks_end (in_load last size) limit xs b rest)
    → TellsAll last limit seen (tables_of_blocks r xs) rest (blocks_end (in_load last size) limit xs b rest)
with_tables-blocks last size limit r [] b rest seen p o =
    record { told = record { sites = tt; symbols = tt; debugs = tt }; pass = p.1; obey = behind-type last size limit b 1010 end seen rest type-end p o; count = omega arith }
with_tables-blocks last size limit r (x ∷ xs) b rest seen p o =
    let told = tables_of_block r x in
    let more = tables_of_blocks (r + length told.references) xs in
    let here = with_tables-block last size limit r x (blocks_end (in_load last size) limit xs b rest) seen p o in
    let behind = with_tables-blocks last size limit (r + length told.references) xs b rest (seen_with seen told.sites) here.pass here.obey in
    record { told = TablesFit-merged last limit seen told more here.told behind.told; pass = behind.pass; obey = behind.obey; count = omega (arith, told_count-merged told more, here.count, behind.count) }

abbrev pub ContentFits : HunkKind → ℕ → List ℕ → Type 0
ContentFits Code size ws = length ws ≤ size
ContentFits Data size ws = length ws ≤ size
ContentFits Bss size ws = ws ≡ []

-- a hunk of a load file, with the size from the header
pub record HunkFits (last size : ℕ) (h : Hunk) : Type 0 where
  pub content : ContentFits h.kind size h.content
  pub told : TablesFit last (4 * size) [] h.tables

-- The fields before begin with a hunk that fits, and the rest passes and obeys the rules too.
record Ended (last size : ℕ) (h : Hunk) (rest before : List Field) : Type 0 where
  hunk : HunkFits last size h
  pass : AllPass rest
  obey : Obeys [] rest
  count : told_count h.tables + long_count rest ≤ long_count before

-- a field of this kind is not a site, and does not end a hunk
abbrev Quiet : Kind → Type 0
Quiet k = (n : ℕ) → seen_after k n [] ≡ []

-- the size of a content passes
size-fits : (last size c n : ℕ) (y : HunkKind) (b : ℕ) → Passes (content_size (in_load last size) y b) (type_longword c n) → n ≤ size
size-fits last size c n y b p =
    let below : low (type_longword c n) ≤ size = leb-true (low (type_longword c n)) size (reject_unless-none (nat_le (low (type_longword c n)) size) ContentTooLong p.passes) in
    omega (arith, below, type_longword-low c n p.fits)

behind-quiet : (k : Kind) (n : ℕ) (fs : List Field) → Quiet k → Obeys [] (field k n ∷ fs) → Obeys [] fs
behind-quiet k n fs quiet o = subst (λ s. Obeys s fs) (quiet n) o.1

-- the size of CODE or DATA, its words, and what follows them
abbrev stored : (last size : ℕ) → HunkKind → ℕ → List ℕ → List BlockTree → ℕ → List Field → List Field
stored last size y c ws xs b rest = field (content_size (in_load last size) y 0) (type_longword c (length ws)) ∷ each word ws (blocks_end (in_load last size) (4 * size) xs b rest)

with_tables-stored : (last size : ℕ) (y : HunkKind) (c : ℕ) (ws : List ℕ) (xs : List BlockTree) (b : ℕ) (rest : List Field)
    → AllPass (stored last size y c ws xs b rest) → Obeys [] (stored last size y c ws xs b rest)
    → TellsAll last (4 * size) [] (tables_of_blocks 0 xs) rest (stored last size y c ws xs b rest)
with_tables-stored last size y c ws xs b rest p o =
    let words = words-each ws (blocks_end (in_load last size) (4 * size) xs b rest) [] p.1 o.1 in
    let behind = with_tables-blocks last size (4 * size) 0 xs b rest [] words.pass words.obey in
    record { told = behind.told; pass = behind.pass; obey = behind.obey; count = omega (arith, words.count, behind.count) }

ended-content : (last size : ℕ) (k : Kind) (x : ContentTree) (xs : List BlockTree) (b : ℕ) (name : List ℕ) (rest : List Field) → Quiet k
    → AllPass (content_then k (in_load last size) x xs b rest) → Obeys [] (content_then k (in_load last size) x xs b rest)
    → Ended last size (content_value (in_load last size) name (tables_of_blocks 0 xs) x) rest (content_then k (in_load last size) x xs b rest)
ended-content last size k (code_tree t c ws) xs b name rest quiet p o =
    let behind = with_tables-stored last size Code c ws xs b rest p.1 (behind-quiet k (type_longword t 1001) (stored last size Code c ws xs b rest) quiet o) in
    record { hunk = record { content = size-fits last size c (length ws) Code 0 p.1.0; told = behind.told }; pass = behind.pass; obey = behind.obey; count = omega (arith, behind.count) }
ended-content last size k (data_tree t c ws) xs b name rest quiet p o =
    let behind = with_tables-stored last size Data c ws xs b rest p.1 (behind-quiet k (type_longword t 1002) (stored last size Data c ws xs b rest) quiet o) in
    record { hunk = record { content = size-fits last size c (length ws) Data 0 p.1.0; told = behind.told }; pass = behind.pass; obey = behind.obey; count = omega (arith, behind.count) }
ended-content last size k (bss_tree t c n) xs b name rest quiet p o =
    let blocks = blocks_end (in_load last size) (4 * size) xs b rest in
    let behind = with_tables-blocks last size (4 * size) 0 xs b rest [] p.1.1 (behind-quiet k (type_longword t 1003) (field (content_size (in_load last size) Bss 0) (type_longword c n) ∷ blocks) quiet o).1 in
    record { hunk = record { content = refl; told = behind.told }; pass = behind.pass; obey = behind.obey; count = omega (arith, behind.count) }

ended-hunk : (last size : ℕ) (t : HunkTree) (rest : List Field)
    → AllPass (hunk_at (hunk_type last size) (in_load last size) t.name t.body rest) → Obeys [] (hunk_at (hunk_type last size) (in_load last size) t.name t.body rest)
    → Ended last size (hunk_value (in_load last size) t) rest (hunk_at (hunk_type last size) (in_load last size) t.name t.body rest)
ended-hunk last size t rest p o = go t.name p o
  where
    go : (n : Option NameTree) → AllPass (hunk_at (hunk_type last size) (in_load last size) n t.body rest) → Obeys [] (hunk_at (hunk_type last size) (in_load last size) n t.body rest)
        → Ended last size (content_value (in_load last size) (name_words n) (tables_of_blocks 0 t.body.blocks) t.body.content) rest (hunk_at (hunk_type last size) (in_load last size) n t.body rest)
    go None q r = ended-content last size (hunk_type last size) t.body.content t.body.blocks t.body.end_bits [] rest (λ m. refl) q r
    go (Some n) q r =
        let words = words-each n.words (content_then (content_type (in_load last size)) (in_load last size) t.body.content t.body.blocks t.body.end_bits rest) [] q.1.1 r.1.1 in
        let behind = ended-content last size (content_type (in_load last size)) t.body.content t.body.blocks t.body.end_bits n.words rest (λ m. refl) words.pass words.obey in
        record { hunk = behind.hunk; pass = behind.pass; obey = behind.obey; count = omega (arith, words.count, behind.count) }

-- the value of a hunk's tree
abbrev pub value_of : ℕ → LoadHunkTree → Hunk
value_of last t = hunk_value (in_load last t.size) t.hunk

-- the hunks of a load file, and the longwords that their symbols and debug blocks take
pub record HunksFit (last : ℕ) (ts : List LoadHunkTree) (before : List Field) : Type 0 where
  pub hunks : AllByRecursion (λ t. HunkFits last t.size (value_of last t)) ts
  pub count : sum_by (λ t. told_count (value_of last t).tables) ts ≤ long_count before

pub hunks-fit : (last : ℕ) (ts : List LoadHunkTree) → AllPass (load_hunks last ts []) → Obeys [] (load_hunks last ts []) → HunksFit last ts (load_hunks last ts [])
hunks-fit last [] p o = record { hunks = tt; count = omega arith }
hunks-fit last (t ∷ ts) p o =
    let here = ended-hunk last t.size t.hunk (load_hunks last ts []) p o in
    let behind = hunks-fit last ts here.pass here.obey in
    record { hunks = (here.hunk, behind.hunks); count = omega (arith, here.count, behind.count, sum_by-cons (λ (u : LoadHunkTree). told_count (value_of last u).tables) t ts) }

-- ---- the header's sizes

and_then-second : (a b : Option Reason) → and_then a b ≡ None → b ≡ None
and_then-second None b h = h
and_then-second (Some r) b h = absurd (cc)

-- the sizes fit in the room, and what comes after them passes and obeys the rules
pub record SizesFit (room : ℕ) (ts : List LoadHunkTree) (rest before : List Field) : Type 0 where
  pub sum : sum_by (λ t. t.size) ts ≤ room
  pub pass : AllPass rest
  pub obey : Obeys [] rest
  pub count : long_count rest ≤ long_count before

pub sizes-fit : (last room : ℕ) (done : List ℕ) (ts : List LoadHunkTree) (rest : List Field) → AllPass (sizes_at last room done ts rest) → Obeys [] (sizes_at last room done ts rest)
    → SizesFit room ts rest (sizes_at last room done ts rest)
sizes-fit last room done [] rest p o = record { sum = omega arith; pass = p; obey = o; count = omega arith }
sizes-fit last room done (t ∷ ts) rest p o =
    let n = type_longword t.memory_bits t.size in
    let passes = and_then-second _ (reject_unless (nat_le (low n) room) TooLarge) p.0.passes in
    let below : low n ≤ room = leb-true (low n) room (reject_unless-none (nat_le (low n) room) TooLarge passes) in
    let is : low n ≡ t.size = type_longword-low t.memory_bits t.size p.0.fits in
    let behind = sizes-fit last (room - t.size) (t.size ∷ done) ts rest p.1 o.1 in
    record { sum = omega (arith, behind.sum, sum_by-cons (λ (u : LoadHunkTree). u.size) t ts); pass = behind.pass; obey = behind.obey; count = omega (arith, behind.count) }
