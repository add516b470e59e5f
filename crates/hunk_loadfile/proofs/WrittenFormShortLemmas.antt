-- The short relocation block spells its words, two in each longword.
use Rattle.std.proofs.Common.{◌≡◌, ◌∙◌, ℕ, zero, suc, ◌+◌, ◌*◌, ◌^◌, ◌<◌, ◌≤◌, Option, None, Some, List, [], ◌∷◌, ◌++◌, length, append_assoc, refl, ap, sym, subst, arith}
use Rattle.std.specs.List.{AllByRecursion, flat_map, range_with_len}
use Rattle.std.proofs.lemmas.Bool.{le-leb}
use Rattle.hunk_words.specs.Kinds.{Kind, Field, field, flip, half_after}
use Rattle.hunk_words.specs.FaultTable.{Passes, AllPass}
use Rattle.hunk_words.specs.FieldLongwords.{longwords_after}
use Rattle.hunk_words.specs.Kinds.Within.{in_load}
use Rattle.hunk_words.specs.Kinds.Kind.{short_count, short_hunk, short_offset}
use Rattle.hunk_words.specs.declared.kinds.Half.{Half}
use Rattle.hunk_words.specs.declared.kinds.Half.TheVariants.{Upper as upper, Lower as lower}
use Rattle.hunk_words.specs.declared.kinds.BlockType.TheVariants.{Short as short_block}
use Rattle.hunk_base.specs.declared.fault.Reason.TheVariants.{NoSuchHunk}
use Rattle.hunk_words.specs.Machine.{reverse_onto}
use Rattle.hunk_words.specs.SiteRules.{Obeys, limit_of, seen_after, site_judged}
use Rattle.hunk_base.specs.Sites.{StandFrom}
use Rattle.hunk_words.specs.Spelling.{blocks_end, padded, short_groups, short_offsets}
use Rattle.hunk_words.specs.Trees.{BlockTree, Group}
use Rattle.hunk_words.proofs.KindsTypeLemmas.{type-short}
use Rattle.hunk_loadfile.specs.WrittenForm.{group_words, groups_words, offsets_to, paired, short_words}
use Rattle.hunk_loadfile.proofs.LoadFormLemmas.{LieBefore}
use Rattle.hunk_loadfile.proofs.ShortNumbersLemmas.{length-offsets_to-le, words-offsets_to}
use Rattle.hunk_loadfile.proofs.WrittenFormPartLemmas.{Spells, reject_unless-holds, site-obeys, spells-type}
use Rattle.hunk_loadfile.proofs.WrittenFormSiteLemmas.{AreFree, IsClear, clear-behind, clear-far, clear-start, free-offsets}
use Rattle.hunk_loadfile.proofs.WrittenFormTree.{group_tree, group_trees, short_trees}

-- ---- halves of longwords

-- the upper half that waits for its lower one, from this half of a longword on
abbrev waiting : Half → ℕ → Option ℕ
waiting upper m = None
waiting lower m = Some m

-- From this half of a longword on, the fields spell the longwords. `m` is the longword's upper half, if they begin
-- at its lower one.
record SpellsFrom (h : Half) (m : ℕ) (seen : List ℕ) (fs : List Field) (ws : List ℕ) : Type 0 where
  fits : AllPass fs
  sites : Obeys seen fs
  words : longwords_after (waiting h m) fs ≡ ws

-- words from this half on, filled up to a whole longword, and longwords after them
abbrev halves : Half → ℕ → List ℕ → List ℕ → List ℕ
halves upper m [] ws = ws
halves lower m [] ws = (m * 2 ^ 16 + 0) ∷ ws
halves upper m (v ∷ vs) ws = halves lower v vs ws
halves lower m (v ∷ vs) ws = (m * 2 ^ 16 + v) ∷ halves upper v vs ws

paired-halves : (m : ℕ) (vs ws : List ℕ) → halves upper m vs ws ≡ paired vs ++ ws
paired-halves m [] ws = refl
paired-halves m (v ∷ []) ws = let same : v * 2 ^ 16 + 0 ≡ v * 2 ^ 16 = omega arith in ap (λ n. n ∷ ws) same
paired-halves m (v ∷ w ∷ vs) ws = ap (λ us. (v * 2 ^ 16 + w) ∷ us) (paired-halves w vs ws)

spells-half : (k : Kind) (n : ℕ) (h : Half) (m : ℕ) (seen : List ℕ) (fs : List Field) (vs ws : List ℕ) → longwords_after None (field k n ∷ fs) ≡ longwords_after (Some n) fs → Passes k n
    → site_judged (limit_of k) seen n ≡ None → SpellsFrom (flip h) n (seen_after k n seen) fs (halves (flip h) n vs ws) → SpellsFrom h m seen (field k n ∷ fs) (halves h m (n ∷ vs) ws)
spells-half k n upper m seen fs vs ws waits passes obeys rest = record {
  fits = (passes, rest.fits);
  sites = (obeys, rest.sites);
  words = waits ∙ rest.words;
}
spells-half k n lower m seen fs vs ws waits passes obeys rest = record {
  fits = (passes, rest.fits);
  sites = (obeys, rest.sites);
  words = ap (λ us. (m * 2 ^ 16 + n) ∷ us) rest.words;
}

-- ---- groups

spells-short_offsets : (limit target : ℕ) (os : List ℕ) (h : Half) (m : ℕ) (seen : List ℕ) (fs : List Field) (vs ws : List ℕ) → AllByRecursion (λ n. n < 2 ^ 16) os → AreFree limit seen os
    → ((last : ℕ) → SpellsFrom (half_after (length os) h) last (reverse_onto os seen) fs (halves (half_after (length os) h) last vs ws))
    → SpellsFrom h m seen (short_offsets h limit target os fs) (halves h m (os ++ vs) ws)
spells-short_offsets limit target [] h m seen fs vs ws words free rest = rest m
spells-short_offsets limit target (o ∷ os) h m seen fs vs ws words free rest =
    let inside : o + 4 ≤ limit = free.0 in
    spells-half (short_offset h limit target) o h m seen (short_offsets (flip h) limit target os fs) (os ++ vs) ws refl (record { fits = words.0; passes = refl })
    (site-obeys limit o seen inside free.1) (spells-short_offsets limit target os (flip h) o (o ∷ seen) fs vs ws words.1 free.2 rest)

flip-thrice : (h : Half) → flip (flip (flip h)) ≡ flip h
flip-thrice upper = refl
flip-thrice lower = refl

spells-short_group : (last limit target : ℕ) (os : List ℕ) (h : Half) (m : ℕ) (seen : List ℕ) (gs : List Group) (fs : List Field) (vs ws : List ℕ) → target ≤ last → last < 2 ^ 16
    → length os < 2 ^ 16 → AllByRecursion (λ n. n < 2 ^ 16) os → AreFree limit seen os
    → ((half : Half) (upper_half : ℕ) → SpellsFrom half upper_half (reverse_onto os seen) (short_groups half last limit gs 0 fs) (halves half upper_half vs ws))
    → SpellsFrom h m seen (short_groups h last limit (group_tree target os ++ gs) 0 fs) (halves h m (group_words target os ++ vs) ws)
spells-short_group last limit target [] h m seen gs fs vs ws within few short words free rest = rest h m
spells-short_group last limit target (o ∷ os) h m seen gs fs vs ws within few short words free rest =
    let next = half_after (suc (length os)) h in
    let ends : next ≡ half_after (length os) (flip (flip (flip h))) = ap (half_after (length os)) (sym (flip-thrice h)) in
    spells-half (short_count h last limit) (suc (length os)) h m seen _ (target ∷ o ∷ os ++ vs) ws refl (record { fits = short; passes = refl }) refl
    (spells-half (short_hunk (flip h) last limit (length os)) target (flip h) (suc (length os)) seen _ (o ∷ os ++ vs) ws refl (record { fits = omega arith; passes = reject_unless-holds (NoSuchHunk target) (le-leb target last within) }) refl
    (spells-short_offsets limit target (o ∷ os) (flip (flip h)) target seen (short_groups next last limit gs 0 fs) vs ws words free (λ m.
    subst (λ half. SpellsFrom half m (reverse_onto (o ∷ os) seen) (short_groups next last limit gs 0 fs) (halves half m vs ws)) ends (rest next m))))

-- the word after the groups, and its pad
spells-short_end : (h : Half) (m last limit : ℕ) (seen : List ℕ) (fs : List Field) (ws : List ℕ) → Spells seen fs ws → SpellsFrom h m seen (short_groups h last limit [] 0 fs) (halves h m (0 ∷ []) ws)
spells-short_end upper m last limit seen fs ws rest =
    spells-half (short_count upper last limit) 0 upper m seen (padded upper 0 fs) [] ws refl (record { fits = omega arith; passes = refl }) refl (record {
      fits = (record { fits = omega arith; passes = refl }, rest.fits);
      sites = (refl, rest.sites);
      words = ap (λ us. 0 ∷ us) rest.words;
    })
spells-short_end lower m last limit seen fs ws rest =
    spells-half (short_count lower last limit) 0 lower m seen (padded lower 0 fs) [] ws refl (record { fits = omega arith; passes = refl }) refl (record { fits = rest.fits; sites = rest.sites; words = rest.words })

spells-short_groups : (last limit from count : ℕ) (es far : List (ℕ × ℕ)) (h : Half) (m : ℕ) (seen : List ℕ) (fs : List Field) (ws : List ℕ) → from + count ≤ last + 1 → last < 2 ^ 16 → length es < 2 ^ 16
    → AllByRecursion (λ e. e.0 < 2 ^ 16) es → StandFrom 0 limit es → IsClear from seen es → LieBefore es far → IsClear 0 seen far → ((later : List ℕ) → IsClear 0 later far → Spells later fs ws)
    → SpellsFrom h m seen (short_groups h last limit (group_trees from count es) 0 fs) (halves h m (flat_map (λ target. group_words target (offsets_to target es)) (range_with_len from count) ++ 0 ∷ []) ws)
spells-short_groups last limit from zero es far h m seen fs ws within few short near stand clear before others rest = spells-short_end h m last limit seen fs ws (rest seen others)
spells-short_groups last limit from (suc count) es far h m seen fs ws within few short near stand clear before others rest =
    let os = offsets_to from es in
    let more = flat_map (λ target. group_words target (offsets_to target es)) (range_with_len (from + 1) count) in
    let fewer : length os < 2 ^ 16 = omega (arith, length-offsets_to-le from es) in
    subst (λ us. SpellsFrom h m seen (short_groups h last limit (group_trees from (suc count) es) 0 fs) (halves h m us ws)) (sym (append_assoc (group_words from os) more (0 ∷ [])))
    (spells-short_group last limit from os h m seen (group_trees (from + 1) count es) fs (more ++ 0 ∷ []) ws (omega arith) few fewer (words-offsets_to from es near) (free-offsets from 0 limit seen es stand clear) (λ half upper_half.
    spells-short_groups last limit (from + 1) count es far half upper_half (reverse_onto os seen) fs ws (omega arith) few short near stand (clear-behind from limit seen es stand clear) before (clear-far from seen es far before others) rest))

-- ---- the block

-- The block, after which come sites that lie after all of its own.
pub spells-short : (last size limit count : ℕ) (es far : List (ℕ × ℕ)) (blocks : List BlockTree) (fs : List Field) (ws : List ℕ) → count ≤ last + 1 → last < 2 ^ 16 → length es < 2 ^ 16
    → AllByRecursion (λ e. e.0 < 2 ^ 16) es → StandFrom 0 limit es → LieBefore es far → ((later : List ℕ) → IsClear 0 later far → Spells later (blocks_end (in_load last size) limit blocks 0 fs) ws)
    → Spells [] (blocks_end (in_load last size) limit (short_trees count es ++ blocks) 0 fs) (short_words count es ++ ws)
spells-short last size limit count [] far blocks fs ws within few small near stand before rest = rest [] (clear-start 0 far)
spells-short last size limit count (e ∷ es) far blocks fs ws within few small near stand before rest =
    let words = groups_words count (e ∷ es) ++ 0 ∷ [] in
    let behind = blocks_end (in_load last size) limit blocks 0 fs in
    let spelled = spells-short_groups last limit 0 count (e ∷ es) far upper 0 [] behind ws (omega arith) few small near stand (clear-start 0 (e ∷ es)) before (clear-start 0 far) rest in
    spells-type last size limit 1020 short_block [] _ _ (omega arith) type-short refl (record {
      fits = spelled.fits;
      sites = spelled.sites;
      words = spelled.words ∙ paired-halves 0 words ws;
    })
