-- The groups of a relocation block, and the sites in ascending order of target that they are made
-- of.
use Rattle.std.proofs.Common.{◌≡◌, ◌==◌, ◌&&◌, not, ◌<◌, ◌≤◌, ◌+◌, ◌-◌, ◌*◌, ◌/◌, ◌%◌, ◌^◌, ◌∙◌, ℕ, zero, suc, inl, inr, Bool, false, List, [], ◌∷◌, ◌++◌, length, map, take, drop, get_or, replicate, sym, ap, refl, subst, append-nil, eq-eqb, arith}
use Rattle.std.proofs.lemmas.Bool.{cases_eq, cases_lt, ne_eqb}
use Rattle.std.proofs.lemmas.List.{length-append, length-drop, length-map, length-take-le, map-append, take-append-drop, get_or-take, get_or-drop}
use Rattle.std.proofs.lemmas.List.Elements.{All-from_recursion, All-weaker, filter-append, filter_agree, recursion_from_All}
use Rattle.std.proofs.lemmas.List.Sorted.{All-permutation, IsNonDecreasingBy-drop, length_permutation}
use Rattle.std.specs.List.{All, AllByRecursion, filter, flat_map, range_with_len}
use Rattle.std.specs.List.Sorted.{IsNonDecreasingBy, IsStableByKey, ties}
use Rattle.std.specs.Ordering.{is_lt, nat_cmp}
use Rattle.std.specs.Cmp.{nat_cmp_is}
use Rattle.std.specs.declared.cmp.Ordering.TheVariants.{Less, Equal, Greater}
use Rattle.hunk_base.specs.Name.{bytes_of}
use Rattle.hunk_base.specs.Sites.{StandFrom}
use Rattle.byteorder.specs.Endian.{big_bytes}
use Rattle.hunk_loadfile.specs.declared.number_width.NumberWidth.{NumberWidth}
use Rattle.hunk_loadfile.specs.declared.number_width.NumberWidth.TheVariants.{Word, Longword}
use Rattle.hunk_loadfile.specs.NumberWidth.{block_type, bytes_in}
use Rattle.hunk_loadfile.specs.RelocationWriter.{AreByTarget, IsGroup, block_bytes, block_end}
use Rattle.hunk_loadfile.specs.WrittenForm.{group_words, groups_words, offsets_to, paired, relocation_words, short_words, site_words}
use Rattle.hunk_loadfile.specs.declared.load_form.LoadForm.{LoadForm}
use Rattle.hunk_loadfile.specs.LoadForm.{long_sites, short_sites}
use Rattle.hunk_loadfile.proofs.LoadFormLemmas.{AllByRecursion-filter, stand-few}
use Rattle.hunk_loadfile.proofs.ShortNumbersLemmas.{short_groups-fit}
use Rattle.hunk_loadfile.proofs.PutsLemmas.{All-front}
use Rattle.hunk_loadfile.proofs.LongwordWriterLemmas.{bytes_of-append, length-bytes_of}

-- ---- the offsets of a target

abbrev pub offset_of : ℕ × ℕ → ℕ
offset_of = λ pair. pair.0

offsets_to-append : (target : ℕ) (xs ys : List (ℕ × ℕ)) → offsets_to target (xs ++ ys) ≡ offsets_to target xs ++ offsets_to target ys
offsets_to-append target xs ys =
    let names = λ (pair : ℕ × ℕ). pair.1 == target in
    ap (map offset_of) (filter-append names xs ys) ∙ map-append offset_of (filter names xs) (filter names ys)

offsets-none : (target : ℕ) (xs : List (ℕ × ℕ)) → AllByRecursion (λ pair. pair.1 ≡ target → ⊥) xs → offsets_to target xs ≡ []
offsets-none target [] h = refl
offsets-none target (x ∷ xs) h = rw (ne_eqb x.1 target h.0) (offsets-none target xs h.1)

offsets_to-none : (target : ℕ) (xs : List (ℕ × ℕ)) → All (λ pair. pair.1 ≡ target → ⊥) xs → offsets_to target xs ≡ []
offsets_to-none target xs h = offsets-none target xs (recursion_from_All (λ pair. pair.1 ≡ target → ⊥) xs h)

offsets-all : (target : ℕ) (xs : List (ℕ × ℕ)) → AllByRecursion (λ pair. pair.1 ≡ target) xs → offsets_to target xs ≡ map offset_of xs
offsets-all target [] h = refl
offsets-all target (x ∷ xs) h = rw (eq-eqb x.1 target h.0) (ap (λ (os : List ℕ). x.0 ∷ os) (offsets-all target xs h.1))

offsets_to-all : (target : ℕ) (xs : List (ℕ × ℕ)) → All (λ pair. pair.1 ≡ target) xs → offsets_to target xs ≡ map offset_of xs
offsets_to-all target xs h = offsets-all target xs (recursion_from_All (λ pair. pair.1 ≡ target) xs h)

-- a stable sort by target keeps the offsets of each target
ties_is_same : (a b : ℕ) → (not (is_lt (nat_cmp a b)) && not (is_lt (nat_cmp b a))) ≡ (b == a)
ties_is_same a b = elim (cases_lt a b) [
  | inl below ↦
      let less : nat_cmp a b ≡ Less = sym (nat_cmp_is a b Less below) in
      let other : (b == a) ≡ false = ne_eqb b a (λ is. absurd (omega arith)) in
      rw (less, other) refl
  | inr above ↦ elim (cases_eq a b) [
    | inl same ↦
        let equal : nat_cmp a b ≡ Equal = sym (nat_cmp_is a b Equal same) in
        let back : nat_cmp b a ≡ Equal = sym (nat_cmp_is b a Equal (sym same)) in
        rw (equal, back, eq-eqb b a (sym same)) refl
    | inr apart ↦
        let greater : nat_cmp a b ≡ Greater = sym (nat_cmp_is a b Greater (omega arith)) in
        let less : nat_cmp b a ≡ Less = sym (nat_cmp_is b a Less (omega arith)) in
        let other : (b == a) ≡ false = ne_eqb b a (λ is. apart (sym is)) in
        rw (greater, less, other) refl
  ]
]

pub offsets_to-stable : (xs ys : List (ℕ × ℕ)) → IsStableByKey (λ (pair : ℕ × ℕ). pair.1) nat_cmp xs ys → (target : ℕ) → offsets_to target ys ≡ offsets_to target xs
offsets_to-stable xs ys stable target =
    let names = λ (pair : ℕ × ℕ). pair.1 == target in
    let tie = ties (λ (x y : ℕ × ℕ). is_lt (nat_cmp x.1 y.1)) (0, target) in
    let same : (pair : ℕ × ℕ) → tie pair ≡ names pair = λ pair. ties_is_same target pair.1 in
    ap (map offset_of) (sym (filter_agree tie names same ys) ∙ stable (0, target) ∙ filter_agree tie names same xs)

-- ---- the groups of some targets

abbrev groups_from : ℕ → ℕ → List (ℕ × ℕ) → List ℕ
groups_from from count pairs = flat_map (λ target. group_words target (offsets_to target pairs)) (range_with_len from count)

groups_from-same : (from count : ℕ) (xs ys : List (ℕ × ℕ)) → ((target : ℕ) → from ≤ target → offsets_to target xs ≡ offsets_to target ys) → groups_from from count xs ≡ groups_from from count ys
groups_from-same from zero xs ys same = refl
groups_from-same from (suc count) xs ys same =
    ap (λ (os : List ℕ). group_words from os ++ groups_from (from + 1) count xs) (same from (omega arith))
    ∙ ap (λ (rest : List ℕ). group_words from (offsets_to from ys) ++ rest) (groups_from-same (from + 1) count xs ys (λ target after. same target (omega arith)))

-- the same offsets of each target make the same groups
pub groups_words-same : (count : ℕ) (xs ys : List (ℕ × ℕ)) → ((target : ℕ) → offsets_to target xs ≡ offsets_to target ys) → groups_words count xs ≡ groups_words count ys
groups_words-same count xs ys same = groups_from-same 0 count xs ys (λ target from. same target)

groups_from-nil : (from count : ℕ) → groups_from from count [] ≡ []
groups_from-nil from zero = refl
groups_from-nil from (suc count) = groups_from-nil (from + 1) count

pub groups_words-nil : (count : ℕ) → groups_words count [] ≡ []
groups_words-nil count = groups_from-nil 0 count

module _ (target : ℕ) (group behind : List (ℕ × ℕ)) (same : All (λ (pair : ℕ × ℕ). pair.1 ≡ target) group) (above : All (λ (pair : ℕ × ℕ). target < pair.1) behind) where
  -- a target that is not above the group's has no site after the group
  behind-none : (other : ℕ) → other ≤ target → offsets_to other behind ≡ []
  behind-none other low = offsets_to-none other behind (All-weaker (λ (pair : ℕ × ℕ). target < pair.1) (λ (pair : ℕ × ℕ). pair.1 ≡ other → ⊥) (λ pair up is. absurd (omega arith)) behind above)

  group-none : (other : ℕ) → (target ≡ other → ⊥) → offsets_to other (group ++ behind) ≡ offsets_to other behind
  group-none other apart =
      let none = offsets_to-none other group (All-weaker (λ (pair : ℕ × ℕ). pair.1 ≡ target) (λ (pair : ℕ × ℕ). pair.1 ≡ other → ⊥) (λ pair here is. apart (sym here ∙ is)) group same) in
      offsets_to-append other group behind ∙ ap (λ (os : List ℕ). os ++ offsets_to other behind) none

  group-all : offsets_to target (group ++ behind) ≡ map offset_of group
  group-all =
      offsets_to-append target group behind ∙ ap (λ (os : List ℕ). offsets_to target group ++ os) (behind-none target (omega arith))
      ∙ append-nil (offsets_to target group) ∙ offsets_to-all target group same

  groups-here : (count : ℕ) → groups_from target (suc count) (group ++ behind) ≡ group_words target (map offset_of group) ++ groups_from target (suc count) behind
  groups-here count =
      let rest = groups_from (target + 1) count in
      ap (λ (os : List ℕ). group_words target os ++ rest (group ++ behind)) group-all
      ∙ ap (λ (ws : List ℕ). group_words target (map offset_of group) ++ ws) (groups_from-same (target + 1) count (group ++ behind) behind (λ other after. group-none other (λ is. absurd (omega arith))))
      ∙ ap (λ (os : List ℕ). group_words target (map offset_of group) ++ (group_words target os ++ rest behind)) (sym (behind-none target (omega arith)))

  groups-first : (from count : ℕ) → from ≤ target → target < from + count
      → groups_from from count (group ++ behind) ≡ group_words target (map offset_of group) ++ groups_from from count behind
  groups-first from zero low high = absurd (omega arith)
  groups-first from (suc count) low high = elim (cases_eq from target) [
    | inl here ↦
        subst (λ (first : ℕ). groups_from first (suc count) (group ++ behind) ≡ group_words target (map offset_of group) ++ groups_from first (suc count) behind) (sym here) (groups-here count)
    | inr apart ↦
        let none = behind-none from low in
        let rest = groups_from (from + 1) count in
        ap (λ (os : List ℕ). group_words from os ++ rest (group ++ behind)) (group-none from (λ is. apart (sym is)) ∙ none)
        ∙ groups-first (from + 1) count (omega arith) (omega arith)
        ∙ ap (λ (os : List ℕ). group_words target (map offset_of group) ++ (group_words from os ++ rest behind)) (sym none)
  ]

-- the target of a group is that of one of its sites
pub target-below : (target count : ℕ) (group : List (ℕ × ℕ)) → 0 < length group → All (λ (pair : ℕ × ℕ). pair.1 ≡ target) group → All (λ (pair : ℕ × ℕ). pair.1 < count) group → target < count
target-below target count group some same below = omega (arith, same 0 (0, 0) some, below 0 (0, 0) some)

module _ (target : ℕ) (group behind pairs : List (ℕ × ℕ)) (is : IsGroup target group behind pairs) where
  pub group-length : length group + length behind ≡ length pairs
  group-length = omega (arith, ap length is.parts, length-append group behind)

  -- the groups are the first one and those of the sites after it
  pub groups_words-first : (count : ℕ) → All (λ (pair : ℕ × ℕ). pair.1 < count) pairs → groups_words count pairs ≡ group_words target (map offset_of group) ++ groups_words count behind
  groups_words-first count below =
      let front = All-front (λ (pair : ℕ × ℕ). pair.1 < count) group behind pairs is.parts below in
      ap (groups_words count) is.parts ∙ groups-first target group behind is.same is.above 0 count (omega arith) (omega (arith, target-below target count group is.some is.same front))

-- the longwords of a group
length-words : (target : ℕ) (os : List ℕ) → 0 < length os → length (group_words target os) ≡ 2 + length os
length-words target [] some = absurd (omega arith)
length-words target (o ∷ os) some = omega arith

pub group_words-some : (target : ℕ) (group : List (ℕ × ℕ)) → 0 < length group → group_words target (map offset_of group) ≡ (length group ∷ target ∷ []) ++ map offset_of group
group_words-some target [] some = absurd (omega arith)
group_words-some target (x ∷ xs) some = ap (λ (n : ℕ). n ∷ target ∷ x.0 ∷ map offset_of xs) (length-map (x ∷ xs) offset_of)

-- the longwords of the group that comes first
abbrev pub words_of : {target : ℕ} {group behind pairs : List (ℕ × ℕ)} → IsGroup target group behind pairs → List ℕ
words_of {target} {group} is = group_words target (map offset_of group)

pub length-words_of : (target : ℕ) (group behind pairs : List (ℕ × ℕ)) (is : IsGroup target group behind pairs) → length (words_of is) ≡ 2 + length group
length-words_of target group behind pairs is =
    let same = length-map group offset_of in
    omega (arith, is.some, same, length-words target (map offset_of group) (omega (arith, same, is.some)))

-- the groups, around the next one
pub groups-around : (target : ℕ) (group behind pairs all : List (ℕ × ℕ)) → IsGroup target group behind pairs → (words : List ℕ) (count : ℕ)
    → All (λ (pair : ℕ × ℕ). pair.1 < count) pairs → words ++ groups_words count pairs ≡ groups_words count all
    → words ++ (group_words target (map offset_of group) ++ groups_words count behind) ≡ groups_words count all
groups-around target group behind pairs all is words count below whole =
    ap (λ (ws : List ℕ). words ++ ws) (sym (groups_words-first target group behind pairs is count below)) ∙ whole

-- the groups, if no site is left
pub groups-all : (count : ℕ) (words : List ℕ) (rest all : List (ℕ × ℕ)) → length rest ≡ 0 → words ++ groups_words count rest ≡ groups_words count all → words ≡ groups_words count all
groups-all count words [] all none whole = sym (append-nil words) ∙ ap (λ (ws : List ℕ). words ++ ws) (sym (groups_words-nil count)) ∙ whole
groups-all count words (x ∷ rest) all none whole = absurd (omega arith)

-- ---- the block

-- the block around its groups
pub block_bytes-some : (width : NumberWidth) (count : ℕ) (pairs : List (ℕ × ℕ)) → 0 < length pairs
    → block_bytes width count pairs ≡ bytes_of (block_type width ∷ []) ++ (bytes_in width (groups_words count pairs) ++ block_end (length (bytes_in width (groups_words count pairs))))
block_bytes-some width count [] some = absurd (omega arith)
block_bytes-some width count (e ∷ es) some = refl

-- sorting by target changes no block
pub block_bytes-sorted : (width : NumberWidth) (count : ℕ) (sites pairs : List (ℕ × ℕ)) → AreByTarget sites pairs → block_bytes width count pairs ≡ block_bytes width count sites
block_bytes-sorted width count [] [] order = refl
block_bytes-sorted width count [] (p ∷ ps) order = absurd (omega (arith, length_permutation [] (p ∷ ps) order.same))
block_bytes-sorted width count (s ∷ ss) [] order = absurd (omega (arith, length_permutation (s ∷ ss) [] order.same))
block_bytes-sorted width count (s ∷ ss) (p ∷ ps) order =
    ap (λ (ws : List ℕ). bytes_of (block_type width ∷ []) ++ (bytes_in width ws ++ block_end (length (bytes_in width ws)))) (groups_words-same count (p ∷ ps) (s ∷ ss) order.kept)

-- a zero fills up whole longwords
whole_longwords : (n : ℕ) → block_end (4 * n) ≡ bytes_of (0 ∷ [])
whole_longwords n = let four : 4 - 4 * n % 4 ≡ 4 = omega arith in ap (λ (k : ℕ). replicate k 0) four

-- the block with 32-bit numbers
pub block_bytes-long : (count : ℕ) (sites : List (ℕ × ℕ)) → block_bytes Longword count sites ≡ bytes_of (site_words count sites)
block_bytes-long count [] = refl
block_bytes-long count (e ∷ es) =
    let words = groups_words count (e ∷ es) in
    let end = ap block_end (length-bytes_of words) ∙ whole_longwords (length words) in
    ap (λ (bytes : List ℕ). bytes_of (1004 ∷ []) ++ (bytes_of words ++ bytes)) end ∙ ap (λ (bytes : List ℕ). bytes_of (1004 ∷ []) ++ bytes) (sym (bytes_of-append words (0 ∷ [])))

-- two words in a longword
pair-bytes : (v w : ℕ) → v < 2 ^ 16 → w < 2 ^ 16 → big_bytes 4 (v * 2 ^ 16 + w) ≡ big_bytes 2 v ++ big_bytes 2 w
pair-bytes v w high low =
    let first : (v * 2 ^ 16 + w) / 256 ^ 3 % 256 ≡ v / 256 % 256 = omega arith in
    let second : (v * 2 ^ 16 + w) / 256 ^ 2 % 256 ≡ v % 256 = omega arith in
    let third : (v * 2 ^ 16 + w) / 256 % 256 ≡ w / 256 % 256 = omega arith in
    let fourth : (v * 2 ^ 16 + w) % 256 ≡ w % 256 = omega arith in
    rw (first, second, third, fourth) refl

-- words and a zero, in longwords
paired-bytes : (ws : List ℕ) → AllByRecursion (λ w. w < 2 ^ 16) ws → bytes_of (paired (ws ++ 0 ∷ [])) ≡ bytes_in Word ws ++ block_end (length (bytes_in Word ws))
paired-bytes [] small = refl
paired-bytes (v ∷ []) small =
    let same : v * 2 ^ 16 + 0 ≡ v * 2 ^ 16 = omega arith in
    pair-bytes v 0 small.0 (omega arith)
paired-bytes (v ∷ w ∷ ws) small =
    let rest = bytes_in Word ws in
    let end : suc (suc (suc (suc (length rest)))) % 4 ≡ length rest % 4 = omega arith in
    ap (λ (bytes : List ℕ). bytes ++ bytes_of (paired (ws ++ 0 ∷ []))) (pair-bytes v w small.0 small.1.0)
    ∙ ap (λ (bytes : List ℕ). (big_bytes 2 v ++ big_bytes 2 w) ++ bytes) (paired-bytes ws small.1.1)
    ∙ ap (λ (n : ℕ). (big_bytes 2 v ++ big_bytes 2 w) ++ (rest ++ replicate (4 - n) 0)) (sym end)

-- the short block
pub block_bytes-short : (count : ℕ) (sites : List (ℕ × ℕ)) → All (λ n. n < 2 ^ 16) (groups_words count sites) → block_bytes Word count sites ≡ bytes_of (short_words count sites)
block_bytes-short count [] small = refl
block_bytes-short count (e ∷ es) small =
    let words = groups_words count (e ∷ es) in
    ap (λ (bytes : List ℕ). bytes_of (1020 ∷ []) ++ bytes) (sym (paired-bytes words (recursion_from_All (λ n. n < 2 ^ 16) words small)))

-- what sorting leaves of each block of a hunk
module _ (form : LoadForm) (limit : ℕ) (sites : List (ℕ × ℕ)) where
  pub short-bytes : (count : ℕ) (pairs : List (ℕ × ℕ)) → AreByTarget (short_sites form sites) pairs → StandFrom 0 limit sites → All (λ (site : ℕ × ℕ). site.1 < 2 ^ 16) sites
      → block_bytes Word count pairs ≡ bytes_of (short_words count (short_sites form sites))
  short-bytes count pairs order stand targets =
      block_bytes-sorted Word count (short_sites form sites) pairs order ∙ block_bytes-short count (short_sites form sites) (short_groups-fit form count limit sites stand targets)

  pub long-bytes : (count : ℕ) (pairs : List (ℕ × ℕ)) → AreByTarget (long_sites form sites) pairs → block_bytes Longword count pairs ≡ bytes_of (site_words count (long_sites form sites))
  long-bytes count pairs order = block_bytes-sorted Longword count (long_sites form sites) pairs order ∙ block_bytes-long count (long_sites form sites)

  -- both blocks, of sites that need no sorting
  pub block_bytes-both : (count : ℕ) → StandFrom 0 limit sites → All (λ (site : ℕ × ℕ). site.1 < 2 ^ 16) sites
      → block_bytes Word count (short_sites form sites) ++ block_bytes Longword count (long_sites form sites) ≡ bytes_of (relocation_words form count sites)
  block_bytes-both count stand targets =
      ap (λ (bytes : List ℕ). bytes ++ block_bytes Longword count (long_sites form sites)) (block_bytes-short count (short_sites form sites) (short_groups-fit form count limit sites stand targets))
      ∙ ap (λ (bytes : List ℕ). bytes_of (short_words count (short_sites form sites)) ++ bytes) (block_bytes-long count (long_sites form sites))
      ∙ sym (bytes_of-append (short_words count (short_sites form sites)) (site_words count (long_sites form sites)))

  pub All-block : (test : ℕ × ℕ → Bool) (P : ℕ × ℕ → Type 0) (pairs : List (ℕ × ℕ)) → AreByTarget (filter test sites) pairs → All P sites → All P pairs
  All-block test P pairs order all = All-permutation P (filter test sites) pairs order.same (All-from_recursion P (filter test sites) (AllByRecursion-filter test P sites (recursion_from_All P sites all)))

-- the first sites, as long as their target is the first one's
pub IsGroup-split : (target n : ℕ) (group behind pairs : List (ℕ × ℕ)) → group ≡ take n pairs → behind ≡ drop n pairs
    → IsNonDecreasingBy (λ (pair : ℕ × ℕ). pair.1) pairs → n ≤ length pairs → 0 < length pairs → (get_or pairs 0 (0, 0)).1 ≡ target
    → ((k : ℕ) (d : ℕ × ℕ) → k < n → (get_or pairs k d).1 ≡ target) → ((d : ℕ × ℕ) → n < length pairs → (get_or pairs n d).1 ≡ target → ⊥)
    → IsGroup target group behind pairs
IsGroup-split target n group behind pairs front back rise within some first before stops =
    let long : 0 < n = elim (cases_lt 0 n) [ inl up ↦ up | inr none ↦ let zeroth : n ≡ 0 = omega arith in absurd (stops (0, 0) (omega arith) (ap (λ (k : ℕ). (get_or pairs k (0, 0)).1) zeroth ∙ first)) ] in
    record {
      parts = sym (take-append-drop n pairs) ∙ ap (λ (xs : List (ℕ × ℕ)). xs ++ drop n pairs) (sym front) ∙ ap (λ (ys : List (ℕ × ℕ)). group ++ ys) (sym back);
      some = omega (arith, ap length front, length-take-le n pairs within);
      same = subst (All (λ (pair : ℕ × ℕ). pair.1 ≡ target)) (sym front) (λ k d low. let here : k < n = omega (arith, length-take-le n pairs within) in ap (λ (pair : ℕ × ℕ). pair.1) (get_or-take n pairs k d here) ∙ before k d here);
      above = subst (All (λ (pair : ℕ × ℕ). target < pair.1)) (sym back) (λ k d low.
          let inside : n + k < length pairs = omega (arith, length-drop n pairs) in
          let apart = stops d (omega arith) in
          let up = rise n (n + k) d (omega arith) inside in
          let from = rise 0 n d (omega arith) (omega arith) in
          let at : (get_or (drop n pairs) k d).1 ≡ (get_or pairs (n + k) d).1 = ap (λ (pair : ℕ × ℕ). pair.1) (get_or-drop n pairs k d) in
          let one : (get_or pairs 0 d).1 ≡ target = before 0 d long in
          omega (arith, at, up, from, one, apart));
      rise = subst (IsNonDecreasingBy (λ (pair : ℕ × ℕ). pair.1)) (sym back) (IsNonDecreasingBy-drop (λ (pair : ℕ × ℕ). pair.1) n pairs rise);
    }

-- ---- the greatest number of sites

pub StandFrom-few : (limit : ℕ) (pairs : List (ℕ × ℕ)) → StandFrom 0 limit pairs → All (λ (pair : ℕ × ℕ). pair.0 < 2 ^ 32) pairs → length pairs ≤ 2 ^ 30
StandFrom-few limit pairs apart typed = omega (arith, stand-few (2 ^ 32) 0 limit pairs apart (recursion_from_All (λ (pair : ℕ × ℕ). pair.0 < 2 ^ 32) pairs typed))
