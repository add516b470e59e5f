-- The hunks of units in the order of linking: how many they are, sums over them, their ranks, and what
-- holds of each.
use Rattle.std.proofs.Common.{◌≡◌, ℕ, suc, ◌+◌, ◌-◌, ◌<◌, ◌≤◌, List, [], ◌∷◌, ◌++◌, Some, drop, length, map, sum_by, get_or, inl, inr, refl, sym, ap, ◌∙◌, arith}
use Rattle.std.specs.List.{All, enumerate_from, slice_get}
use Rattle.std.proofs.lemmas.Bool.{cases_lt}
use Rattle.std.proofs.lemmas.List.{append-nil, append_assoc, drop_all, drop_more, get_or_append_left, get_or-append_right, get_or-map, length-append, length-map}
use Rattle.std.proofs.lemmas.List.Elements.{All-append, All-cons, All-head, All-map, All-nil, All-tail, All-weaker}
use Rattle.std.proofs.lemmas.List.FromFn.{get_or-enumerate_from, length-enumerate_from}
use Rattle.std.proofs.lemmas.List.Sums.{sum_by-append, sum_by-cons}
use Rattle.std.proofs.lemmas.Option.{get_or_from_slice_get, slice_get_within}
use Rattle.hunk_objects.specs.ProgramUnit.{ObjectUnit, hunk_count}
use Rattle.hunk_objects.specs.UnitHunk.{ObjectHunk}
use Rattle.hunk_link.specs.Limits.{IsHunkCount}
use Rattle.hunk_link.specs.Ranks.{IsRanked, RankedHunk, hunks_from, hunks_of, rank_of, unit_hunks}

-- ---- the hunks of one unit

-- the hunk with this number in a unit of `count` hunks
abbrev pub ranked_hunk : (unit first count : ℕ) → ℕ × ObjectHunk → RankedHunk
ranked_hunk unit first count hunk = record { unit = unit; number = hunk.0; first = first; count = count; hunk = hunk.1 }

-- those from this number on
abbrev pub hunks_behind : (unit first count number : ℕ) → List ObjectHunk → List RankedHunk
hunks_behind unit first count number hunks = map (ranked_hunk unit first count) (enumerate_from number hunks)

pub length-unit_hunks : (unit first : ℕ) (hunks : List ObjectHunk) → length (unit_hunks unit first hunks) ≡ length hunks
length-unit_hunks unit first hunks =
    length-map (enumerate_from 0 hunks) (ranked_hunk unit first (length hunks)) ∙ length-enumerate_from 0 hunks

sum_by-hunks_behind : (f : ObjectHunk → ℕ) (unit first count number : ℕ) (hunks : List ObjectHunk)
    → sum_by (λ ranked. f ranked.hunk) (hunks_behind unit first count number hunks) ≡ sum_by f hunks
sum_by-hunks_behind f unit first count number [] = refl
sum_by-hunks_behind f unit first count number (h ∷ hunks) =
    sum_by-cons (λ (ranked : RankedHunk). f ranked.hunk) (ranked_hunk unit first count (number, h)) (hunks_behind unit first count (number + 1) hunks)
    ∙ ap (λ n. f h + n) (sum_by-hunks_behind f unit first count (number + 1) hunks)
    ∙ sym (sum_by-cons f h hunks)

-- the hunk that stands at this place among those of its unit
pub get_or-unit_hunks : (unit first number : ℕ) (hunks : List ObjectHunk) (d : RankedHunk) → number < length hunks
    → get_or (unit_hunks unit first hunks) number d ≡ ranked_hunk unit first (length hunks) (number, get_or hunks number d.hunk)
get_or-unit_hunks unit first number hunks d within =
    let counted : number < length (enumerate_from 0 hunks) = omega (arith, length-enumerate_from 0 hunks) in
    get_or-map (ranked_hunk unit first (length hunks)) (enumerate_from 0 hunks) number (0, d.hunk) d counted
    ∙ ap (ranked_hunk unit first (length hunks)) (get_or-enumerate_from 0 hunks number (0, d.hunk) within ∙ ap (λ n. (n, get_or hunks number d.hunk)) (omega arith))

-- ---- how many they are

pub length-hunks_from : (unit first : ℕ) (units : List ObjectUnit) → length (hunks_from unit first units) ≡ sum_by hunk_count units
length-hunks_from unit first [] = refl
length-hunks_from unit first (u ∷ units) =
    length-append (unit_hunks unit first u.hunks) (hunks_from (suc unit) (first + length u.hunks) units)
    ∙ ap (λ n. n + length (hunks_from (suc unit) (first + length u.hunks) units)) (length-unit_hunks unit first u.hunks)
    ∙ ap (λ n. length u.hunks + n) (length-hunks_from (suc unit) (first + length u.hunks) units)
    ∙ sym (sum_by-cons hunk_count u units)

pub length-hunks_of : (units : List ObjectUnit) → length (hunks_of units) ≡ sum_by hunk_count units
length-hunks_of units = length-hunks_from 0 0 units

-- ---- sums over them

pub sum_by-hunks_from : (f : ObjectHunk → ℕ) (unit first : ℕ) (units : List ObjectUnit)
    → sum_by (λ ranked. f ranked.hunk) (hunks_from unit first units) ≡ sum_by (λ u. sum_by f u.hunks) units
sum_by-hunks_from f unit first [] = refl
sum_by-hunks_from f unit first (u ∷ units) =
    let of_hunk : RankedHunk → ℕ = λ ranked. f ranked.hunk in
    let rest = hunks_from (suc unit) (first + length u.hunks) units in
    sum_by-append of_hunk (unit_hunks unit first u.hunks) rest
    ∙ ap (λ n. n + sum_by of_hunk rest) (sum_by-hunks_behind f unit first (length u.hunks) 0 u.hunks)
    ∙ ap (λ n. sum_by f u.hunks + n) (sum_by-hunks_from f (suc unit) (first + length u.hunks) units)
    ∙ sym (sum_by-cons (λ (v : ObjectUnit). sum_by f v.hunks) u units)

pub sum_by-hunks_of : (f : ObjectHunk → ℕ) (units : List ObjectUnit)
    → sum_by (λ ranked. f ranked.hunk) (hunks_of units) ≡ sum_by (λ u. sum_by f u.hunks) units
sum_by-hunks_of f units = sum_by-hunks_from f 0 0 units

-- ---- units after others

pub hunks_from-append : (unit first : ℕ) (xs ys : List ObjectUnit)
    → hunks_from unit first (xs ++ ys) ≡ hunks_from unit first xs ++ hunks_from (unit + length xs) (first + sum_by hunk_count xs) ys
hunks_from-append unit first [] ys = ap (λ u. hunks_from u first ys) (omega arith) ∙ ap (λ f. hunks_from (unit + 0) f ys) (omega arith)
hunks_from-append unit first (x ∷ xs) ys =
    let more : ℕ = first + length x.hunks in
    let counted = sum_by-cons hunk_count x xs in
    ap (λ l. unit_hunks unit first x.hunks ++ l) (hunks_from-append (suc unit) more xs ys)
    ∙ sym (append_assoc (unit_hunks unit first x.hunks) (hunks_from (suc unit) more xs) (hunks_from (suc unit + length xs) (more + sum_by hunk_count xs) ys))
    ∙ ap (λ u. hunks_from unit first (x ∷ xs) ++ hunks_from u (more + sum_by hunk_count xs) ys) (omega arith)
    ∙ ap (λ f. hunks_from unit first (x ∷ xs) ++ hunks_from (unit + suc (length xs)) f ys) (omega (arith, counted))

-- ---- their ranks

-- Its number is one of its unit, whose hunks have ranks below `most`.
pub record IsRankedBelow (most : ℕ) (ranked : RankedHunk) : Type 0 where
  pub in_unit : ranked.number < ranked.count
  pub few : ranked.first + ranked.count ≤ most

IsRankedBelow-hunks_behind : (most unit first count number : ℕ) (hunks : List ObjectHunk) → number + length hunks ≤ count → first + count ≤ most
    → All (IsRankedBelow most) (hunks_behind unit first count number hunks)
IsRankedBelow-hunks_behind most unit first count number [] within few = All-nil (IsRankedBelow most)
IsRankedBelow-hunks_behind most unit first count number (h ∷ hunks) within few =
    All-cons (IsRankedBelow most) (ranked_hunk unit first count (number, h)) (hunks_behind unit first count (number + 1) hunks) (record { in_unit = omega arith; few = few })
    (IsRankedBelow-hunks_behind most unit first count (number + 1) hunks (omega arith) few)

pub IsRankedBelow-hunks_from : (most unit first : ℕ) (units : List ObjectUnit) → first + sum_by hunk_count units ≤ most
    → All (IsRankedBelow most) (hunks_from unit first units)
IsRankedBelow-hunks_from most unit first [] few = All-nil (IsRankedBelow most)
IsRankedBelow-hunks_from most unit first (u ∷ units) few =
    let counted = sum_by-cons hunk_count u units in
    All-append (IsRankedBelow most) (unit_hunks unit first u.hunks) (hunks_from (suc unit) (first + length u.hunks) units)
    (IsRankedBelow-hunks_behind most unit first (length u.hunks) 0 u.hunks (omega arith) (omega (arith, counted)))
    (IsRankedBelow-hunks_from most (suc unit) (first + length u.hunks) units (omega (arith, counted)))

-- the ranks of a unit's hunks are ranks of hunks
pub IsRankedBelow-hunks_of : (units : List ObjectUnit) → All (IsRankedBelow (length (hunks_of units))) (hunks_of units)
IsRankedBelow-hunks_of units = IsRankedBelow-hunks_from (length (hunks_of units)) 0 0 units (omega (arith, length-hunks_of units))

pub IsRanked-hunks_of : (units : List ObjectUnit) → IsHunkCount (hunks_of units) → All IsRanked (hunks_of units)
IsRanked-hunks_of units counted =
    All-weaker (IsRankedBelow (length (hunks_of units))) IsRanked (λ ranked below. record { in_unit = below.in_unit; few = omega (arith, below.few, counted.few) }) (hunks_of units) (IsRankedBelow-hunks_of units)

-- The rank of a hunk is the rank of the first and its place behind it.
pub rank_of-hunks_from : (unit first place : ℕ) (units : List ObjectUnit) (d : RankedHunk) → place < length (hunks_from unit first units)
    → rank_of (get_or (hunks_from unit first units) place d) ≡ first + place
rank_of-hunks_from unit first place [] d within = absurd (omega arith)
rank_of-hunks_from unit first place (u ∷ units) d within =
    let here = unit_hunks unit first u.hunks in
    let rest = hunks_from (suc unit) (first + length u.hunks) units in
    let count = length-unit_hunks unit first u.hunks in
    elim (cases_lt place (length u.hunks)) [
      | inl below ↦ ap rank_of (get_or_append_left here rest d place (omega (arith, count)) ∙ get_or-unit_hunks unit first place u.hunks d below)
      | inr above ↦ ap rank_of (get_or-append_right here rest (length u.hunks) place d count above)
          ∙ rank_of-hunks_from (suc unit) (first + length u.hunks) (place - length u.hunks) units d (omega (arith, count, length-append here rest))
          ∙ omega arith
    ]

pub rank_of-hunks_of : (place : ℕ) (units : List ObjectUnit) (d : RankedHunk) → place < length (hunks_of units) → rank_of (get_or (hunks_of units) place d) ≡ place
rank_of-hunks_of place units d within = rank_of-hunks_from 0 0 place units d within ∙ omega arith

-- a hunk stands at its rank
pub rank_of-place : (units : List ObjectUnit) (place : ℕ) (ranked : RankedHunk) → slice_get (hunks_of units) place ≡ Some ranked → place ≡ rank_of ranked
rank_of-place units place ranked is =
    sym (rank_of-hunks_of place units ranked (slice_get_within (hunks_of units) place ranked is)) ∙ ap rank_of (get_or_from_slice_get (hunks_of units) place ranked ranked is)

-- ---- what each hunk of each unit has

All-enumerate_from : {X : Type 0} (P : X → Type 0) (from : ℕ) (xs : List X) → All P xs → All (λ e. P e.1) (enumerate_from from xs)
All-enumerate_from P from [] all = All-nil (λ e. P e.1)
All-enumerate_from P from (x ∷ xs) all =
    All-cons (λ e. P e.1) (from, x) (enumerate_from (from + 1) xs) (All-head P x xs all) (All-enumerate_from P (from + 1) xs (All-tail P x xs all))

-- each hunk of a unit
abbrev AllIn : (ObjectHunk → Type 0) → ObjectUnit → Type 0
AllIn P unit = All P unit.hunks

abbrev OfHunk : (ObjectHunk → Type 0) → RankedHunk → Type 0
OfHunk P ranked = P ranked.hunk

All-unit_hunks : (P : ObjectHunk → Type 0) (unit first : ℕ) (hunks : List ObjectHunk) → All P hunks → All (OfHunk P) (unit_hunks unit first hunks)
All-unit_hunks P unit first hunks all = All-map (OfHunk P) _ (enumerate_from 0 hunks) (All-enumerate_from P 0 hunks all)

All-hunks_from : (P : ObjectHunk → Type 0) (unit first : ℕ) (units : List ObjectUnit) → All (AllIn P) units → All (OfHunk P) (hunks_from unit first units)
All-hunks_from P unit first [] all = All-nil (OfHunk P)
All-hunks_from P unit first (u ∷ units) all =
    All-append (OfHunk P) (unit_hunks unit first u.hunks) _
    (All-unit_hunks P unit first u.hunks (All-head (AllIn P) u units all))
    (All-hunks_from P (suc unit) (first + length u.hunks) units (All-tail (AllIn P) u units all))

pub All-hunks_of : (P : ObjectHunk → Type 0) (units : List ObjectUnit) → All (λ unit. All P unit.hunks) units → All (λ ranked. P ranked.hunk) (hunks_of units)
All-hunks_of P units all = All-hunks_from P 0 0 units all

-- ---- one after another

hunks_behind-more : (unit first count number : ℕ) (hunks : List ObjectHunk) (hunk : ObjectHunk) → number < length hunks → hunk ≡ get_or hunks number hunk
    → hunks_behind unit first count number (drop number hunks) ≡ ranked_hunk unit first count (number, hunk) ∷ hunks_behind unit first count (number + 1) (drop (number + 1) hunks)
hunks_behind-more unit first count number hunks hunk within is =
    ap (hunks_behind unit first count number) (drop_more hunks number hunk within ∙ ap (λ h. h ∷ drop (number + 1) hunks) (sym is))

pub hunks_from-more : (unit first : ℕ) (units : List ObjectUnit) (u : ObjectUnit) → unit < length units → u ≡ get_or units unit u
    → hunks_from unit first (drop unit units) ≡ unit_hunks unit first u.hunks ++ hunks_from (unit + 1) (first + length u.hunks) (drop (unit + 1) units)
hunks_from-more unit first units u within is =
    ap (hunks_from unit first) (drop_more units unit u within ∙ ap (λ v. v ∷ drop (unit + 1) units) (sym is))
    ∙ ap (λ n. unit_hunks unit first u.hunks ++ hunks_from n (first + length u.hunks) (drop (unit + 1) units)) (omega arith)

-- Where some hunks are made, and all that are left stand behind them: at the beginning of a unit,
pub hunks_of-unit_begun : (made all : List RankedHunk) (unit place first count : ℕ) (units : List ObjectUnit) (u : ObjectUnit) (hunks : List ObjectHunk)
    → unit < length units → u ≡ get_or units unit u → first ≡ place → count ≡ length u.hunks → hunks ≡ u.hunks
    → made ++ hunks_from unit place (drop unit units) ≡ all
    → made ++ (hunks_behind unit first count 0 hunks ++ hunks_from (unit + 1) (first + count) (drop (unit + 1) units)) ≡ all
hunks_of-unit_begun made all unit place first count units u hunks within is first_is count_is hunks_is so_far =
    rw (first_is, count_is, hunks_is) (ap (λ l. made ++ l) (sym (hunks_from-more unit place units u within is)) ∙ so_far)

-- when one more hunk of it is made,
pub hunks_of-hunk_made : (made rest all : List RankedHunk) (unit first count number : ℕ) (hunks : List ObjectHunk) (hunk : ObjectHunk)
    → number < length hunks → hunk ≡ get_or hunks number hunk
    → made ++ (hunks_behind unit first count number (drop number hunks) ++ rest) ≡ all
    → (made ++ ranked_hunk unit first count (number, hunk) ∷ []) ++ (hunks_behind unit first count (number + 1) (drop (number + 1) hunks) ++ rest) ≡ all
hunks_of-hunk_made made rest all unit first count number hunks hunk within is so_far =
    append_assoc made (ranked_hunk unit first count (number, hunk) ∷ []) (hunks_behind unit first count (number + 1) (drop (number + 1) hunks) ++ rest)
    ∙ ap (λ l. made ++ (l ++ rest)) (sym (hunks_behind-more unit first count number hunks hunk within is))
    ∙ so_far

-- when all of it are,
pub hunks_of-unit_made : (made all : List RankedHunk) (unit first count number place : ℕ) (units : List ObjectUnit) (hunks : List ObjectHunk)
    → length hunks ≤ number → place ≡ first + count
    → made ++ (hunks_behind unit first count number (drop number hunks) ++ hunks_from (unit + 1) (first + count) (drop (unit + 1) units)) ≡ all
    → made ++ hunks_from (unit + 1) place (drop (unit + 1) units) ≡ all
hunks_of-unit_made made all unit first count number place units hunks past place_is so_far =
    rw place_is (ap (λ l. made ++ (hunks_behind unit first count number l ++ hunks_from (unit + 1) (first + count) (drop (unit + 1) units))) (sym (drop_all number hunks past)) ∙ so_far)

-- and when no unit is left.
pub hunks_of-made : (made all : List RankedHunk) (unit place : ℕ) (units : List ObjectUnit) → length units ≤ unit
    → made ++ hunks_from unit place (drop unit units) ≡ all → made ≡ all
hunks_of-made made all unit place units past so_far =
    sym (append-nil made) ∙ ap (λ us. made ++ hunks_from unit place us) (sym (drop_all unit units past)) ∙ so_far
