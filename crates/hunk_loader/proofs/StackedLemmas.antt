-- Hunks that are placed one after another, with one of them moved up.
use Rattle.std.proofs.Common.{◌≡◌, ◌≢◌, inl, inr, ℕ, zero, suc, ◌+◌, ◌*◌, ◌^◌, ◌<◌, ◌≤◌, List, [], ◌∷◌, length, set, slice_index, sum, refl, sym, ap, ◌∙◌, get_or-set_other, get_or-set_same, arith}
use Rattle.std.proofs.lemmas.Bool.{cases_eq}
use Rattle.std.proofs.lemmas.List.{get_or_past, length-set}
use Rattle.std.proofs.lemmas.List.Sums.{sum_by-cons}
use Rattle.hunk_loader.specs.Places.{Placed, ShareAddress}
use Rattle.hunk_loader.proofs.PlacesLemmas.{Placed-from_apart}

-- ---- one after another

-- the bases of hunks of which the first one begins here, and each other one where the one before it ends
abbrev pub stacked : ℕ → List ℕ → List ℕ
stacked from [] = []
stacked from (size ∷ sizes) = from ∷ stacked (from + 4 * size) sizes

length-stacked : (from : ℕ) (sizes : List ℕ) → length (stacked from sizes) ≡ length sizes
length-stacked from [] = refl
length-stacked from (size ∷ sizes) = ap suc (length-stacked (from + 4 * size) sizes)

stacked-from : (from : ℕ) (sizes : List ℕ) (hunk : ℕ) → hunk < length sizes → from ≤ slice_index (stacked from sizes) hunk
stacked-from from [] hunk low = absurd (omega arith)
stacked-from from (size ∷ sizes) zero low = omega arith
stacked-from from (size ∷ sizes) (suc hunk) low = omega (arith, stacked-from (from + 4 * size) sizes hunk (omega arith))

stacked-end : (from : ℕ) (sizes : List ℕ) (hunk : ℕ) → hunk < length sizes → slice_index (stacked from sizes) hunk + 4 * slice_index sizes hunk ≤ from + 4 * sum sizes
stacked-end from [] hunk low = absurd (omega arith)
stacked-end from (size ∷ sizes) zero low = omega (arith, sum_by-cons (λ n. n) size sizes)
stacked-end from (size ∷ sizes) (suc hunk) low = omega (arith, sum_by-cons (λ n. n) size sizes, stacked-end (from + 4 * size) sizes hunk (omega arith))

stacked-order : (from : ℕ) (sizes : List ℕ) (before after : ℕ) → before < after → after < length sizes
    → slice_index (stacked from sizes) before + 4 * slice_index sizes before ≤ slice_index (stacked from sizes) after
stacked-order from [] before after order low = absurd (omega arith)
stacked-order from (size ∷ sizes) before zero order low = absurd (omega arith)
stacked-order from (size ∷ sizes) zero (suc after) order low = stacked-from (from + 4 * size) sizes after (omega arith)
stacked-order from (size ∷ sizes) (suc before) (suc after) order low = stacked-order (from + 4 * size) sizes before after (omega arith) (omega arith)

-- ---- one of them moved up

-- This hunk is moved up by 2 ^ 26 bytes, or none if there are no more hunks.
abbrev pub moved : List ℕ → ℕ → List ℕ
moved sizes hunk = set (stacked 0 sizes) hunk (slice_index (stacked 0 sizes) hunk + 2 ^ 26)

pub moved-itself : (sizes : List ℕ) (hunk : ℕ) → hunk < length sizes → slice_index (moved sizes hunk) hunk ≡ slice_index (stacked 0 sizes) hunk + 2 ^ 26
moved-itself sizes hunk low = get_or-set_same (stacked 0 sizes) hunk (slice_index (stacked 0 sizes) hunk + 2 ^ 26) 0 (omega (arith, length-stacked 0 sizes))

pub moved-other : (sizes : List ℕ) (hunk other : ℕ) → other ≢ hunk → slice_index (moved sizes hunk) other ≡ slice_index (stacked 0 sizes) other
moved-other sizes hunk other apart = get_or-set_other (stacked 0 sizes) hunk other (slice_index (stacked 0 sizes) hunk + 2 ^ 26) 0 apart

pub length-moved : (sizes : List ℕ) (hunk : ℕ) → length (moved sizes hunk) ≡ length sizes
length-moved sizes hunk = length-set (stacked 0 sizes) hunk (slice_index (stacked 0 sizes) hunk + 2 ^ 26) ∙ length-stacked 0 sizes

-- behind the last hunk there is none to be moved
pub moved-none : (sizes : List ℕ) (hunk : ℕ) → slice_index (moved sizes (length sizes)) hunk ≡ slice_index (stacked 0 sizes) hunk
moved-none sizes hunk = elim (cases_eq hunk (length sizes)) [
  | inl past ↦
      get_or_past (moved sizes (length sizes)) hunk 0 (omega (arith, length-moved sizes (length sizes)))
      ∙ sym (get_or_past (stacked 0 sizes) hunk 0 (omega (arith, length-stacked 0 sizes)))
  | inr apart ↦ moved-other sizes (length sizes) hunk apart
]

module _ (sizes : List ℕ) (hunk : ℕ) (small : 4 * sum sizes ≤ 2 ^ 26) where
  moved-within : (k : ℕ) → k < length sizes → slice_index (moved sizes hunk) k + 4 * slice_index sizes k ≤ 2 ^ 27
  moved-within k low = elim (cases_eq k hunk) [
    | inl same ↦ omega (arith, small, ap (slice_index (moved sizes hunk)) same, ap (slice_index (stacked 0 sizes)) same, moved-itself sizes hunk (omega arith), stacked-end 0 sizes k low)
    | inr apart ↦ omega (arith, small, moved-other sizes hunk k apart, stacked-end 0 sizes k low)
  ]

  -- No two hunks share an address: they are in their order, or one of them is above all others.
  moved-apart : (earlier later : ℕ) → earlier < later → later < length sizes → ShareAddress sizes (moved sizes hunk) earlier later → ⊥
  moved-apart earlier later order low share =
      let one = stacked-end 0 sizes earlier (omega arith) in
      let other = stacked-end 0 sizes later low in
      let between = stacked-order 0 sizes earlier later order low in
      let a = share.in_one in
      let b = share.in_other in
      elim (cases_eq earlier hunk) [
        | inl same ↦ omega (arith, small, one, other, ap (slice_index (moved sizes hunk)) same, moved-itself sizes hunk (omega arith), moved-other sizes hunk later (λ e. absurd (omega arith)), a.from_base, b.before_end)
        | inr apart ↦ elim (cases_eq later hunk) [
          | inl same ↦ omega (arith, small, one, other, ap (slice_index (moved sizes hunk)) same, moved-itself sizes hunk (omega arith), moved-other sizes hunk earlier apart, a.before_end, b.from_base)
          | inr neither ↦ omega (arith, between, moved-other sizes hunk earlier apart, moved-other sizes hunk later neither, a.before_end, b.from_base)
        ]
      ]

  pub Placed-moved : Placed sizes (moved sizes hunk)
  Placed-moved =
      Placed-from_apart sizes (moved sizes hunk) (sym (length-moved sizes hunk))
      (λ k low. omega (arith, moved-within k (omega (arith, length-moved sizes hunk, low))))
      (λ k low. omega (arith, moved-within k (omega (arith, length-moved sizes hunk, low))))
      (λ later low earlier order share. moved-apart earlier later order (omega (arith, length-moved sizes hunk, low)) share)
