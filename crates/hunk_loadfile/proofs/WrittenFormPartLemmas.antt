-- Fields that spell longwords, each number passing and each site obeying the rules: a lemma for
-- each part of a written hunk, with the premise that what comes after it spells its longwords.
use Rattle.std.proofs.Common.{◌≡◌, ◌∙◌, ℕ, zero, suc, ◌+◌, ◌*◌, ◌^◌, ◌<◌, ◌≤◌, nat_le, nat_lt, Bool, true, None, Some, List, [], ◌∷◌, ◌++◌, length, map, sum_by, append_assoc, refl, ap, sym, subst, arith}
use Rattle.std.specs.List.{All, AllByRecursion, flat_map, range_with_len}
use Rattle.std.proofs.lemmas.Bool.{cond-true, eq-eqb, le-leb, lt-ltb}
use Rattle.std.proofs.lemmas.List.Elements.{recursion_from_All}
use Rattle.std.proofs.lemmas.List.Sums.{sum_by-cons}
use Rattle.hunk_base.specs.Name.{most_name, name_words}
use Rattle.hunk_words.specs.Kinds.{Kind, Field, field, low, type_of, entry_type}
use Rattle.hunk_words.specs.FaultTable.{Passes, AllPass, reject_unless, may_follow, begins_in_load, refused_type, knows_short}
use Rattle.hunk_words.specs.Kinds.Within.{in_load}
use Rattle.hunk_words.specs.Kinds.Kind.{hunk_type, block_type, word, value, content_size, reloc_count, hunk_number, offset, debug_length, symbol_entry}
use Rattle.hunk_words.specs.declared.kinds.HunkKind.{HunkKind}
use Rattle.hunk_words.specs.declared.kinds.BlockType.{BlockType}
use Rattle.hunk_words.specs.declared.kinds.BlockType.TheVariants.{Content as content, Reloc as reloc, Symbol as symbol, Debug as debug, End as end}
use Rattle.hunk_base.specs.declared.fault.Reason.{Reason}
use Rattle.hunk_base.specs.declared.fault.Reason.TheVariants.{ContentTooLong, NoSuchHunk, SymbolKind, SiteOutside, SiteOverlap}
use Rattle.hunk_words.specs.Machine.{reverse_onto}
use Rattle.hunk_words.specs.SiteRules.{Obeys, all_apart, limit_of, seen_after, seen_at, site_judged}
use Rattle.hunk_base.specs.Sites.{StandFrom}
use Rattle.hunk_words.specs.Spelling.{joined_bits, type_longword, each, groups, symbols, blocks_end}
use Rattle.hunk_words.specs.Trees.{Group, SymbolTree, BlockTree}
use Rattle.hunk_words.specs.FieldLongwords.{longwords_of}
use Rattle.hunk_base.proofs.NameLemmas.{length-name_words, name_words-lt}
use Rattle.hunk_words.proofs.SpellingBitLemmas.{type_longword-low, type_longword-type}
use Rattle.hunk_words.proofs.KindsTypeLemmas.{type-reloc, type-symbol, type-debug, type-end}
use Rattle.hunk_loadfile.specs.Rules.{IsLongword, IsTypedSymbol, debug_longwords}
use Rattle.hunk_loadfile.specs.WrittenForm.{debug_words, group_words, groups_words, offsets_to, site_words, symbol_words, symbols_words}
use Rattle.hunk_loadfile.proofs.WrittenFormTree.{debug_trees, group_tree, group_trees, site_trees, symbol_of, symbol_trees}
use Rattle.hunk_loadfile.proofs.ShortNumbersLemmas.{length-offsets_to-le}
use Rattle.hunk_loadfile.proofs.WrittenFormSiteLemmas.{AreFree, IsClear, clear-behind, free-offsets}

-- The fields spell the longwords. `seen` are the offsets of the hunk's earlier sites.
pub record Spells (seen : List ℕ) (fs : List Field) (ws : List ℕ) : Type 0 where
  pub fits : AllPass fs
  pub sites : Obeys seen fs
  pub words : longwords_of fs ≡ ws

-- ---- one field

pub spells-next : (k : Kind) (n : ℕ) (seen : List ℕ) (fs : List Field) (ws : List ℕ) → longwords_of (field k n ∷ fs) ≡ n ∷ longwords_of fs → Passes k n
    → site_judged (limit_of k) seen n ≡ None → Spells (seen_after k n seen) fs ws → Spells seen (field k n ∷ fs) (n ∷ ws)
spells-next k n seen fs ws long passes obeys rest = record {
  fits = (passes, rest.fits);
  sites = (obeys, rest.sites);
  words = long ∙ ap (λ us. n ∷ us) rest.words;
}

pub reject_unless-holds : {b : Bool} (reason : Reason) → b ≡ true → reject_unless b reason ≡ None
reject_unless-holds reason holds = ap (λ b. reject_unless b reason) holds

pub type_longword-is : (bits n : ℕ) → n < 2 ^ 30 → type_longword bits n ≡ bits * 2 ^ 30 + n
unfolding joined_bits
type_longword-is bits n small = cond-true (nat_lt n (2 ^ 30)) (bits * 2 ^ 30 + n) (2 ^ 32) (lt-ltb n (2 ^ 30) small)

pub type_longword-plain : (n : ℕ) → n < 2 ^ 30 → type_longword 0 n ≡ n
type_longword-plain n small = let sum : 0 * 2 ^ 30 + n ≡ n = omega arith in type_longword-is 0 n small ∙ sum

-- a block's type
pub spells-type : (last size limit t : ℕ) (y : BlockType) (seen : List ℕ) (fs : List Field) (ws : List ℕ) → t < 2 ^ 30 → type_of t ≡ y → may_follow (in_load last size) y ≡ true
    → Spells (seen_at y seen) fs ws → Spells seen (field (block_type (in_load last size) limit) (type_longword 0 t) ∷ fs) (t ∷ ws)
spells-type last size limit t y seen fs ws small is follows rest =
    let plain : type_longword 0 t ≡ t = type_longword-plain t small in
    let fits : type_longword 0 t < 2 ^ 32 = omega arith in
    let found : type_of (low (type_longword 0 t)) ≡ y = type_longword-type 0 t is fits in
    let passes : may_follow (in_load last size) (type_of (low (type_longword 0 t))) ≡ true = ap (λ z. may_follow (in_load last size) z) found ∙ follows in
    record {
      fits = (record { fits = fits; passes = reject_unless-holds (refused_type (knows_short (in_load last size)) (type_of (low (type_longword 0 t))) (low (type_longword 0 t))) passes }, rest.fits);
      sites = (refl, subst (λ z. Obeys (seen_at z seen) fs) (sym found) rest.sites);
      words = ap (λ n. n ∷ longwords_of fs) plain ∙ ap (λ us. t ∷ us) rest.words;
    }

-- a content block's type
pub spells-begin : (last size t : ℕ) (c : HunkKind) (seen : List ℕ) (fs : List Field) (ws : List ℕ) → t < 2 ^ 30 → type_of t ≡ content c
    → Spells seen fs ws → Spells seen (field (hunk_type last size) (type_longword 0 t) ∷ fs) (t ∷ ws)
spells-begin last size t c seen fs ws small is rest =
    let plain : type_longword 0 t ≡ t = type_longword-plain t small in
    let fits : type_longword 0 t < 2 ^ 32 = omega arith in
    let passes : begins_in_load (type_of (low (type_longword 0 t))) ≡ true = ap (λ z. begins_in_load z) (type_longword-type 0 t is fits) in
    record {
      fits = (record { fits = fits; passes = reject_unless-holds (refused_type true (type_of (low (type_longword 0 t))) (low (type_longword 0 t))) passes }, rest.fits);
      sites = (refl, rest.sites);
      words = ap (λ n. n ∷ longwords_of fs) plain ∙ ap (λ us. t ∷ us) rest.words;
    }

-- a content block's size
pub spells-size : (last size n bits : ℕ) (c : HunkKind) (seen : List ℕ) (fs : List Field) (ws : List ℕ) → n ≤ size → size ≤ 2 ^ 24
    → Spells seen fs ws → Spells seen (field (content_size (in_load last size) c bits) (type_longword 0 n) ∷ fs) (n ∷ ws)
spells-size last size n bits c seen fs ws within small rest =
    let plain : type_longword 0 n ≡ n = type_longword-plain n (omega arith) in
    let fits : type_longword 0 n < 2 ^ 32 = omega arith in
    let passes : nat_le (low (type_longword 0 n)) size ≡ true = ap (λ m. nat_le m size) (type_longword-low 0 n fits) ∙ le-leb n size within in
    record {
      fits = (record { fits = fits; passes = reject_unless-holds ContentTooLong passes }, rest.fits);
      sites = (refl, rest.sites);
      words = ap (λ m. m ∷ longwords_of fs) plain ∙ ap (λ us. n ∷ us) rest.words;
    }

pub spells-words : (ns seen : List ℕ) (fs : List Field) (ws : List ℕ) → AllByRecursion IsLongword ns → Spells seen fs ws → Spells seen (each word ns fs) (ns ++ ws)
spells-words [] seen fs ws long rest = rest
spells-words (n ∷ ns) seen fs ws long rest =
    spells-next word n seen (each word ns fs) (ns ++ ws) refl (record { fits = long.0; passes = refl }) refl (spells-words ns seen fs ws long.1 rest)

-- ---- sites

pub site-obeys : (limit o : ℕ) (seen : List ℕ) → o + 4 ≤ limit → all_apart o seen ≡ true → site_judged (Some limit) seen o ≡ None
site-obeys limit o seen inside apart =
    cond-true (nat_le (o + 4) limit) (reject_unless (all_apart o seen) (SiteOverlap o)) (Some (SiteOutside o)) (le-leb (o + 4) limit inside) ∙ reject_unless-holds (SiteOverlap o) apart

spells-offsets : (limit target : ℕ) (os seen : List ℕ) (fs : List Field) (ws : List ℕ) → limit < 2 ^ 32 → AreFree limit seen os
    → Spells (reverse_onto os seen) fs ws → Spells seen (each (offset limit target) os fs) (os ++ ws)
spells-offsets limit target [] seen fs ws small free rest = rest
spells-offsets limit target (o ∷ os) seen fs ws small free rest =
    let inside : o + 4 ≤ limit = free.0 in
    spells-next (offset limit target) o seen (each (offset limit target) os fs) (os ++ ws) refl (record { fits = omega arith; passes = refl })
    (site-obeys limit o seen inside free.1) (spells-offsets limit target os (o ∷ seen) fs ws small free.2 rest)

spells-group : (last size limit target : ℕ) (os seen : List ℕ) (gs : List Group) (fs : List Field) (ws : List ℕ) → target ≤ last → last < 2 ^ 32 → limit < 2 ^ 32
    → length os < 2 ^ 31 → AreFree limit seen os → Spells (reverse_onto os seen) (groups (in_load last size) limit gs fs) ws
    → Spells seen (groups (in_load last size) limit (group_tree target os ++ gs) fs) (group_words target os ++ ws)
spells-group last size limit target [] seen gs fs ws within few small short free rest = rest
spells-group last size limit target (o ∷ os) seen gs fs ws within few small short free rest =
    spells-next (reloc_count (in_load last size) limit) (suc (length os)) seen _ _ refl (record { fits = omega arith; passes = refl }) refl
    (spells-next (hunk_number (in_load last size) limit (length os)) target seen _ _ refl (record { fits = omega arith; passes = reject_unless-holds (NoSuchHunk target) (le-leb target last within) }) refl
    (spells-offsets limit target (o ∷ os) seen (groups (in_load last size) limit gs fs) ws small free rest))

spells-groups : (last size limit from count : ℕ) (es : List (ℕ × ℕ)) (seen : List ℕ) (fs : List Field) (ws : List ℕ) → from + count ≤ last + 1 → last < 2 ^ 32 → limit < 2 ^ 32
    → length es < 2 ^ 31 → StandFrom 0 limit es → IsClear from seen es → ((later : List ℕ) → Spells later fs ws)
    → Spells seen (groups (in_load last size) limit (group_trees from count es) fs) (flat_map (λ target. group_words target (offsets_to target es)) (range_with_len from count) ++ 0 ∷ ws)
spells-groups last size limit from zero es seen fs ws within few small short stand clear rest =
    spells-next (reloc_count (in_load last size) limit) 0 seen fs ws refl (record { fits = omega arith; passes = refl }) refl (rest seen)
spells-groups last size limit from (suc count) es seen fs ws within few small short stand clear rest =
    let os = offsets_to from es in
    let more = flat_map (λ target. group_words target (offsets_to target es)) (range_with_len (from + 1) count) in
    let fewer : length os < 2 ^ 31 = omega (arith, length-offsets_to-le from es) in
    subst (λ us. Spells seen (groups (in_load last size) limit (group_trees from (suc count) es) fs) us) (sym (append_assoc (group_words from os) more (0 ∷ ws)))
    (spells-group last size limit from os seen (group_trees (from + 1) count es) fs (more ++ 0 ∷ ws) (omega arith) few small fewer (free-offsets from 0 limit seen es stand clear)
    (spells-groups last size limit (from + 1) count es (reverse_onto os seen) fs ws (omega arith) few small short stand (clear-behind from limit seen es stand clear) rest))

-- the relocation block with 32-bit numbers, after which no site comes
pub spells-sites : (last size limit count : ℕ) (es : List (ℕ × ℕ)) (seen : List ℕ) (blocks : List BlockTree) (fs : List Field) (ws : List ℕ) → count ≤ last + 1 → last < 2 ^ 32 → limit < 2 ^ 32
    → length es < 2 ^ 31 → StandFrom 0 limit es → IsClear 0 seen es → ((later : List ℕ) → Spells later (blocks_end (in_load last size) limit blocks 0 fs) ws)
    → Spells seen (blocks_end (in_load last size) limit (site_trees count es ++ blocks) 0 fs) (site_words count es ++ ws)
spells-sites last size limit count [] seen blocks fs ws within few small short stand clear rest = rest seen
spells-sites last size limit count (e ∷ es) seen blocks fs ws within few small short stand clear rest =
    let whole = blocks_end (in_load last size) limit (site_trees count (e ∷ es) ++ blocks) 0 fs in
    subst (λ us. Spells seen whole (1004 ∷ us)) (sym (append_assoc (groups_words count (e ∷ es)) (0 ∷ []) ws))
    (spells-type last size limit 1004 reloc seen _ _ (omega arith) type-reloc refl
    (spells-groups last size limit 0 count (e ∷ es) seen (blocks_end (in_load last size) limit blocks 0 fs) ws (omega arith) few small short stand clear rest))

-- ---- symbols

spells-symbol : (name : List ℕ) (amount : ℕ) (xs : List SymbolTree) (seen : List ℕ) (fs : List Field) (ws : List ℕ) → 1 ≤ length name → length name < 2 ^ 24 → AllByRecursion IsLongword name
    → amount < 2 ^ 32 → Spells seen (symbols xs fs) ws → Spells seen (symbols (symbol_of name amount ∷ xs) fs) (length name ∷ name ++ amount ∷ ws)
spells-symbol [] amount xs seen fs ws some few long fits rest = absurd (omega arith)
spells-symbol (w ∷ name) amount xs seen fs ws some few long fits rest =
    let plain : entry_type (suc (length name)) ≡ 0 = omega arith in
    let passes = reject_unless-holds (SymbolKind (entry_type (suc (length name)))) (eq-eqb (entry_type (suc (length name))) 0 plain) in
    spells-next symbol_entry (suc (length name)) seen _ _ refl (record { fits = omega arith; passes = passes }) refl
    (spells-words (w ∷ name) seen (field value amount ∷ symbols xs fs) (amount ∷ ws) long
    (spells-next value amount seen (symbols xs fs) ws refl (record { fits = fits; passes = refl }) refl rest))

spells-all_symbols : (ss : List (List ℕ × ℕ)) (seen : List ℕ) (fs : List Field) (ws : List ℕ) → AllByRecursion IsTypedSymbol ss → AllByRecursion (λ s. length s.0 ≤ most_name) ss
    → Spells seen fs ws → Spells seen (symbols (map (λ s. symbol_of (name_words s.0) s.1) ss) fs) (flat_map symbol_words ss ++ 0 ∷ ws)
spells-all_symbols [] seen fs ws typed_ones named rest = spells-next symbol_entry 0 seen fs ws refl (record { fits = omega arith; passes = refl }) refl rest
spells-all_symbols (s ∷ ss) seen fs ws typed_ones named rest =
    let name = name_words s.0 in
    let more = flat_map symbol_words ss in
    let trees = map (λ t. symbol_of (name_words t.0) t.1) ss in
    let short : length s.0 ≤ most_name = named.0 in
    let count = length-name_words s.0 in
    let long : AllByRecursion IsLongword name = recursion_from_All IsLongword name (name_words-lt s.0 typed_ones.0.name_bytes) in
    let regrouped : ((name ++ s.1 ∷ []) ++ more) ++ 0 ∷ ws ≡ name ++ s.1 ∷ (more ++ 0 ∷ ws) = append_assoc (name ++ s.1 ∷ []) more (0 ∷ ws) ∙ append_assoc name (s.1 ∷ []) (more ++ 0 ∷ ws) in
    subst (λ us. Spells seen (symbols (symbol_of name s.1 ∷ trees) fs) (length name ∷ us)) (sym regrouped)
    (spells-symbol name s.1 trees seen fs (more ++ 0 ∷ ws) (omega arith) (omega arith) long typed_ones.0.value (spells-all_symbols ss seen fs ws typed_ones.1 named.1 rest))

pub spells-symbols : (last size limit : ℕ) (ss : List (List ℕ × ℕ)) (blocks : List BlockTree) (seen : List ℕ) (fs : List Field) (ws : List ℕ) → AllByRecursion IsTypedSymbol ss
    → AllByRecursion (λ s. length s.0 ≤ most_name) ss → Spells seen (blocks_end (in_load last size) limit blocks 0 fs) ws
    → Spells seen (blocks_end (in_load last size) limit (symbol_trees ss ++ blocks) 0 fs) (symbols_words ss ++ ws)
spells-symbols last size limit [] blocks seen fs ws typed_ones named rest = rest
spells-symbols last size limit (s ∷ ss) blocks seen fs ws typed_ones named rest =
    let whole = blocks_end (in_load last size) limit (symbol_trees (s ∷ ss) ++ blocks) 0 fs in
    subst (λ us. Spells seen whole (1008 ∷ us)) (sym (append_assoc (flat_map symbol_words (s ∷ ss)) (0 ∷ []) ws))
    (spells-type last size limit 1008 symbol seen _ _ (omega arith) type-symbol refl
    (spells-all_symbols (s ∷ ss) seen (blocks_end (in_load last size) limit blocks 0 fs) ws typed_ones named rest))

-- ---- debug blocks, and the end of the hunk

pub spells-debugs : (last size limit : ℕ) (ds : List (List ℕ)) (seen : List ℕ) (fs : List Field) (ws : List ℕ) → AllByRecursion (All IsLongword) ds → sum_by debug_longwords ds ≤ 2 ^ 28
    → Spells [] fs ws → Spells seen (blocks_end (in_load last size) limit (debug_trees ds) 0 fs) (flat_map debug_words ds ++ 1010 ∷ ws)
spells-debugs last size limit [] seen fs ws long few rest = spells-type last size limit 1010 end seen fs ws (omega arith) type-end refl rest
spells-debugs last size limit (d ∷ ds) seen fs ws long few rest =
    let more = flat_map debug_words ds in
    let sum = sum_by-cons debug_longwords d ds in
    let whole = blocks_end (in_load last size) limit (debug_trees (d ∷ ds)) 0 fs in
    subst (λ us. Spells seen whole (1009 ∷ length d ∷ us)) (sym (append_assoc d more (1010 ∷ ws)))
    (spells-type last size limit 1009 debug seen _ _ (omega arith) type-debug refl
    (spells-next debug_length (length d) seen _ _ refl (record { fits = omega arith; passes = refl }) refl
    (spells-words d seen (blocks_end (in_load last size) limit (debug_trees ds) 0 fs) (more ++ 1010 ∷ ws) (recursion_from_All IsLongword d long.0)
    (spells-debugs last size limit ds seen fs ws long.1 (omega arith) rest))))
