-- Two load files have the same symbols and debug blocks exactly if they have no first difference in them.
use Rattle.std.proofs.Common.{◌≡◌, ◌==◌, ◌≤◌, ◌+◌, ◌∙◌, Bool, false, inl, inr, ℕ, max, List, [], ◌∷◌, length, map, None, Decides, nat_lt, eq-eqb, refl, sym, ap, arith}
use Rattle.std.specs.Cmp.Lexicographic.{pointwise}
use Rattle.std.specs.List.{common_prefix_len}
use Rattle.std.specs.Option.{option_map, option_or}
use Rattle.std.proofs.lemmas.Bool.{cases_Bool, eqb-true}
use Rattle.std.proofs.lemmas.Bool.Decides.{Decides-eqb, nat_tests}
use Rattle.std.proofs.lemmas.Slice.Eq.{slice_eq-Decides}
use Rattle.hunk_loadfile.specs.declared.info_difference.InfoDifference.TheVariants.{Symbol, Debug}
use Rattle.hunk_loadfile.specs.InfoDifference.{first_unshared, hunk_info_difference, hunks_info_difference, info, is_same_debug, is_same_symbol}
use Rattle.hunk_loadfile.specs.LoadHunk.{FileHunk}
use Rattle.hunk_loadfile.specs.MeaningLaws.{NoInfoDifference}
use Rattle.hunk_loadfile.proofs.DifferenceLawLemmas.{option_map-none, option_or-none}
use Rattle.hunk_loadfile.proofs.DifferenceLemmas.{both-true}

-- ---- tests that decide

debug-decides : (x y : List ℕ) → Decides (is_same_debug x y) (x ≡ y)
debug-decides x y = slice_eq-Decides Decides-eqb x y (is_same_debug x y) refl

symbol-decides : (x y : List ℕ × ℕ) → Decides (is_same_symbol x y) (x ≡ y)
symbol-decides x y = (
  λ same.
      let both = both-true (pointwise ◌==◌ x.0 y.0) (x.1 == y.1) same in
      let name : x.0 ≡ y.0 = (debug-decides x.0 y.0).0 both.0 in
      ap (λ (bytes : List ℕ). (bytes, x.1)) name ∙ ap (λ (value : ℕ). (y.0, value)) (eqb-true x.1 y.1 both.1),
  λ same.
      let name = (debug-decides x.0 y.0).1 (ap (λ (symbol : List ℕ × ℕ). symbol.0) same) in
      let value = eq-eqb x.1 y.1 (ap (λ (symbol : List ℕ × ℕ). symbol.1) same) in
      rw (name, value) refl,
)

-- ---- lists that share all elements

module _ {X : Type 0} (same : X → X → Bool) (decides : (x y : X) → Decides (same x y) (x ≡ y)) where
  shares-all : (xs ys : List X) → length xs ≤ common_prefix_len same xs ys → length ys ≤ common_prefix_len same xs ys → xs ≡ ys
  shares-all [] [] one other = refl
  shares-all [] (y ∷ ys) one other = absurd (omega arith)
  shares-all (x ∷ xs) [] one other = absurd (omega arith)
  shares-all (x ∷ xs) (y ∷ ys) one other = elim (cases_Bool (same x y)) [
    | inl alike ↦
        let left : length xs ≤ common_prefix_len same xs ys = omega (arith, rw alike at one) in
        let right : length ys ≤ common_prefix_len same xs ys = omega (arith, rw alike at other) in
        ap (λ z. z ∷ xs) ((decides x y).0 alike) ∙ ap (λ zs. y ∷ zs) (shares-all xs ys left right)
    | inr unlike ↦ let none : length (x ∷ xs) ≤ 0 = rw unlike at one in absurd (omega arith)
  ]

  shares-itself : (xs : List X) → common_prefix_len same xs xs ≡ length xs
  shares-itself [] = refl
  shares-itself (x ∷ xs) = let alike = (decides x x).1 refl in rw alike (omega (arith, shares-itself xs))

  pub unshared-none : (xs ys : List X) → first_unshared same xs ys ≡ None → xs ≡ ys
  unshared-none xs ys none = elim (cases_Bool (nat_lt (common_prefix_len same xs ys) (max (length xs) (length ys)))) [
    | inl fewer ↦ let no = rw fewer at none in absurd (cc)
    | inr all ↦
        let most : max (length xs) (length ys) ≤ common_prefix_len same xs ys = grind (arith, nat_tests) in
        shares-all xs ys (omega arith) (omega arith)
  ]

  pub unshared-itself : (xs : List X) → first_unshared same xs xs ≡ None
  unshared-itself xs =
      let all = shares-itself xs in
      let no : nat_lt (common_prefix_len same xs xs) (max (length xs) (length xs)) ≡ false = grind (arith, nat_tests) in
      rw no refl

-- ---- hunks and files

info-same : (number : ℕ) (first second : FileHunk) → hunk_info_difference number first second ≡ None → info first ≡ info second
info-same number first second none =
    let both = option_or-none (option_map (Symbol number) (first_unshared is_same_symbol first.symbols second.symbols)) (option_map (Debug number) (first_unshared is_same_debug first.debugs second.debugs)) none in
    let symbols = unshared-none is_same_symbol symbol-decides first.symbols second.symbols (option_map-none (Symbol number) (first_unshared is_same_symbol first.symbols second.symbols) both.0) in
    let debugs = unshared-none is_same_debug debug-decides first.debugs second.debugs (option_map-none (Debug number) (first_unshared is_same_debug first.debugs second.debugs) both.1) in
    ap (λ (all : List (List ℕ × ℕ)). (all, first.debugs)) symbols ∙ ap (λ (all : List (List ℕ)). (second.symbols, all)) debugs

info-difference-none : (number : ℕ) (first second : FileHunk) → info first ≡ info second → hunk_info_difference number first second ≡ None
info-difference-none number first second same =
    let symbols : first_unshared is_same_symbol first.symbols second.symbols ≡ None =
    ap (λ (is : List (List ℕ × ℕ) × List (List ℕ)). first_unshared is_same_symbol first.symbols is.0) (sym same) ∙ unshared-itself is_same_symbol symbol-decides first.symbols in
    let debugs : first_unshared is_same_debug first.debugs second.debugs ≡ None =
    ap (λ (is : List (List ℕ × ℕ) × List (List ℕ)). first_unshared is_same_debug first.debugs is.1) (sym same) ∙ unshared-itself is_same_debug debug-decides first.debugs in
    rw (symbols, debugs) refl

infos-same : (number : ℕ) (first second : List FileHunk) → length first ≡ length second → hunks_info_difference number first second ≡ None → map info first ≡ map info second
infos-same number [] [] counted none = refl
infos-same number [] (y ∷ ys) counted none = absurd (omega arith)
infos-same number (x ∷ xs) [] counted none = absurd (omega arith)
infos-same number (x ∷ xs) (y ∷ ys) counted none =
    let both = option_or-none (hunk_info_difference number x y) (hunks_info_difference (number + 1) xs ys) none in
    ap (λ is. is ∷ map info xs) (info-same number x y both.0) ∙ ap (λ all. info y ∷ all) (infos-same (number + 1) xs ys (omega arith) both.1)

infos-none : (number : ℕ) (first second : List FileHunk) → map info first ≡ map info second → hunks_info_difference number first second ≡ None
infos-none number [] ys same = refl
infos-none number (x ∷ xs) [] same = refl
infos-none number (x ∷ xs) (y ∷ ys) same =
    let heads : info x ≡ info y = cc same in
    let tails : map info xs ≡ map info ys = cc same in
    ap (λ one. option_or one (hunks_info_difference (number + 1) xs ys)) (info-difference-none number x y heads) ∙ infos-none (number + 1) xs ys tails

pub no-info_difference : NoInfoDifference
no-info_difference first second counted = (infos-same 0 first second counted, infos-none 0 first second)
