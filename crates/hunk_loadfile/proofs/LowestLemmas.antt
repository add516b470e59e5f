-- The lowest number in a row that passes a test.
use Rattle.std.proofs.Common.{◌≡◌, ◌≤◌, ◌<◌, ◌+◌, ◌-◌, ◌&&◌, ◌∙◌, Bool, true, false, not, inl, inr, ℕ, zero, suc, min, Option, Some, None, refl, sym, ap, subst, zero-add, arith}
use Rattle.std.specs.Option.{is_some, option_map}
use Rattle.std.proofs.lemmas.Bool.{both_ways, cases_Bool, cases_eq, cases_lt}
use Rattle.hunk_loadfile.specs.Difference.{lowest}

-- It passes and no lower one does; or none does.
abbrev pub IsLowest : (ℕ → Bool) → ℕ → ℕ → Option ℕ → Type 0
IsLowest passes start end None = (i : ℕ) → start ≤ i → i < end → passes i ≡ false
IsLowest passes start end (Some k) = (start ≤ k) × (k < end) × (passes k ≡ true) × ((i : ℕ) → start ≤ i → i < k → passes i ≡ false)

-- ---- `lowest` is it

IsLowest-before : (passes : ℕ → Bool) (start end : ℕ) (place : Option ℕ) → passes start ≡ false → IsLowest passes (start + 1) end place → IsLowest passes start end place
IsLowest-before passes start end None out is = λ i low high. elim (cases_eq i start) [ inl same ↦ ap passes same ∙ out | inr other ↦ is i (omega arith) high ]
IsLowest-before passes start end (Some k) out is = (
  omega (arith, is.0),
  is.1,
  is.2,
  λ i low high. elim (cases_eq i start) [ inl same ↦ ap passes same ∙ out | inr other ↦ is.3 i (omega arith) high ],
)

pub IsLowest-lowest : (passes : ℕ → Bool) (count start : ℕ) → IsLowest passes start (start + count) (lowest passes start count)
IsLowest-lowest passes zero start = λ i low high. absurd (omega arith)
IsLowest-lowest passes (suc n) start = elim (cases_Bool (passes start)) [
  | inl here ↦ rw here (omega arith, omega arith, here, λ i low high. absurd (omega arith))
  | inr out ↦ rw out (
      let next : start + 1 + n ≡ start + suc n = omega arith in
      IsLowest-before passes start (start + suc n) (lowest passes (start + 1) n) out (subst (λ end. IsLowest passes (start + 1) end (lowest passes (start + 1) n)) next (IsLowest-lowest passes n (start + 1)))
      )
]

-- it is below the end
pub lowest-low : (passes : ℕ → Bool) (count k : ℕ) → lowest passes 0 count ≡ Some k → k < count
lowest-low passes count k is = omega (arith, (subst (IsLowest passes 0 (0 + count)) is (IsLowest-lowest passes count 0)).1)

-- and nothing else is.
pub IsLowest-one : (passes : ℕ → Bool) (start end : ℕ) (one other : Option ℕ) → IsLowest passes start end one → IsLowest passes start end other → one ≡ other
IsLowest-one passes start end None None is others = refl
IsLowest-one passes start end None (Some k) is others = absurd (both_ways (passes k) (is k others.0 others.1) others.2)
IsLowest-one passes start end (Some k) None is others = absurd (both_ways (passes k) (others k is.0 is.1) is.2)
IsLowest-one passes start end (Some k) (Some j) is others = elim (cases_lt k j) [
  | inl low ↦ absurd (both_ways (passes k) (others.3 k is.0 low) is.2)
  | inr from ↦ elim (cases_lt j k) [
    | inl high ↦ absurd (both_ways (passes j) (is.3 j others.0 high) others.2)
    | inr same ↦ let equal : k ≡ j = omega arith in ap Some equal
  ]
]

pub lowest-is : (passes : ℕ → Bool) (start count end : ℕ) (place : Option ℕ) → start + count ≡ end → IsLowest passes start end place → place ≡ lowest passes start count
lowest-is passes start count end place at is =
    IsLowest-one passes start end place (lowest passes start count) is (subst (λ e. IsLowest passes start e (lowest passes start count)) at (IsLowest-lowest passes count start))

-- ---- other tests and other ranges

-- a test with the same answers there
pub IsLowest-same : (passes others : ℕ → Bool) (start end : ℕ) (place : Option ℕ) → ((i : ℕ) → start ≤ i → passes i ≡ others i) → IsLowest passes start end place → IsLowest others start end place
IsLowest-same passes others start end None same is = λ i low high. sym (same i low) ∙ is i low high
IsLowest-same passes others start end (Some k) same is = (is.0, is.1, sym (same k is.0) ∙ is.2, λ i low high. sym (same i low) ∙ is.3 i low high)

-- within the range alone
IsLowest-within : (passes others : ℕ → Bool) (start end : ℕ) (place : Option ℕ) → ((i : ℕ) → start ≤ i → i < end → passes i ≡ others i) → IsLowest passes start end place → IsLowest others start end place
IsLowest-within passes others start end None same is = λ i low high. sym (same i low high) ∙ is i low high
IsLowest-within passes others start end (Some k) same is = (is.0, is.1, sym (same k is.0 is.1) ∙ is.2, λ i low high. sym (same i low (omega (arith, is.1))) ∙ is.3 i low high)

pub lowest-within : (passes others : ℕ → Bool) (start count : ℕ) → ((i : ℕ) → start ≤ i → i < start + count → passes i ≡ others i) → lowest passes start count ≡ lowest others start count
lowest-within passes others start count same =
    lowest-is others start count (start + count) (lowest passes start count) refl (IsLowest-within passes others start (start + count) (lowest passes start count) same (IsLowest-lowest passes count start))

-- more numbers, none of which passes
pub IsLowest-longer : (passes : ℕ → Bool) (start end more : ℕ) (place : Option ℕ) → end ≤ more → ((i : ℕ) → end ≤ i → passes i ≡ false) → IsLowest passes start end place → IsLowest passes start more place
IsLowest-longer passes start end more None fits none is = λ i low high. elim (cases_lt i end) [ inl within ↦ is i low within | inr past ↦ none i past ]
IsLowest-longer passes start end more (Some k) fits none is = (is.0, omega (arith, is.1), is.2, is.3)

-- numbers before, none of which passes
pub IsLowest-wider : (passes : ℕ → Bool) (start from end : ℕ) (place : Option ℕ) → start ≤ from → ((i : ℕ) → start ≤ i → i < from → passes i ≡ false) → IsLowest passes from end place → IsLowest passes start end place
IsLowest-wider passes start from end None fits none is = λ i low high. elim (cases_lt i from) [ inl before ↦ none i low before | inr past ↦ is i past high ]
IsLowest-wider passes start from end (Some k) fits none is = (
  omega (arith, is.0),
  is.1,
  is.2,
  λ i low high. elim (cases_lt i from) [ inl before ↦ none i low before | inr past ↦ is.3 i past high ],
)

-- the range in two parts: the lowest number is in the first one,
pub lowest-in_first : (passes : ℕ → Bool) (start more : ℕ) (place : Option ℕ) → start ≤ more → place ≡ lowest passes 0 start → is_some place ≡ true → place ≡ lowest passes 0 more
lowest-in_first passes start more None fits is found = absurd (cc)
lowest-in_first passes start more (Some k) fits is found =
    let here : IsLowest passes 0 (0 + start) (Some k) = subst (IsLowest passes 0 (0 + start)) (sym is) (IsLowest-lowest passes start 0) in
    lowest-is passes 0 more more (Some k) (zero-add more) (here.0, omega (arith, here.1), here.2, here.3)

-- or it is that of the second one, with a test that has the same answers there.
pub lowest-in_second : (passes others : ℕ → Bool) (start more : ℕ) (first place : Option ℕ) → start ≤ more → first ≡ lowest passes 0 start → is_some first ≡ false
    → ((i : ℕ) → start ≤ i → others i ≡ passes i) → place ≡ lowest others start (more - start) → place ≡ lowest passes 0 more
lowest-in_second passes others start more (Some k) place fits first none same is = absurd (cc)
lowest-in_second passes others start more None place fits first none same is =
    let before : IsLowest passes 0 (0 + start) None = subst (IsLowest passes 0 (0 + start)) (sym first) (IsLowest-lowest passes start 0) in
    let here : IsLowest others start (start + (more - start)) place = subst (IsLowest others start (start + (more - start))) (sym is) (IsLowest-lowest others (more - start) start) in
    let end : start + (more - start) ≡ more = omega arith in
    let behind : IsLowest passes start more place = subst (λ e. IsLowest passes start e place) end (IsLowest-same others passes start (start + (more - start)) place same here) in
    lowest-is passes 0 more more place (zero-add more) (IsLowest-wider passes 0 start more place (omega arith) (λ i low high. before i low (omega arith)) behind)

-- or it is that of the second one, counted from its start.
pub lowest-behind : (passes : ℕ → Bool) (start count : ℕ) (place : Option ℕ) → lowest passes 0 start ≡ None → place ≡ lowest (λ i. passes (start + i)) 0 count → option_map (λ i. start + i) place ≡ lowest passes 0 (start + count)
lowest-behind passes start count place none is =
    lowest-is passes 0 (start + count) (start + count) (option_map (λ i. start + i) place) (zero-add (start + count))
    (go place (subst (IsLowest (λ i. passes (start + i)) 0 (0 + count)) (sym is) (IsLowest-lowest (λ i. passes (start + i)) count 0)))
  where
    before : IsLowest passes 0 (0 + start) None
    before = subst (IsLowest passes 0 (0 + start)) none (IsLowest-lowest passes start 0)

    behind : (i : ℕ) → start ≤ i → passes (start + (i - start)) ≡ false → passes i ≡ false
    behind i past out = let at : start + (i - start) ≡ i = omega arith in subst (λ j. passes j ≡ false) at out

    go : (found : Option ℕ) → IsLowest (λ i. passes (start + i)) 0 (0 + count) found → IsLowest passes 0 (start + count) (option_map (λ i. start + i) found)
    go None h = λ i low high. elim (cases_lt i start) [ inl here ↦ before i low (omega arith) | inr past ↦ behind i past (h (i - start) (omega arith) (omega arith)) ]
    go (Some k) h = (
      omega arith,
      omega (arith, h.1),
      h.2,
      λ i low high. elim (cases_lt i start) [ inl here ↦ before i low (omega arith) | inr past ↦ behind i past (h.3 (i - start) (omega arith) (omega arith)) ],
    )

-- ---- either of two tests fails

-- the lower of two numbers that may be there
abbrev pub lower : Option ℕ → Option ℕ → Option ℕ
lower None other = other
lower (Some k) None = Some k
lower (Some k) (Some j) = Some (min j k)

either-left : (one other : Bool) → not one ≡ true → not (one && other) ≡ true
either-left true other h = absurd (cc)
either-left false other h = refl

either-right : (one other : Bool) → not other ≡ true → not (one && other) ≡ true
either-right true other h = h
either-right false other h = refl

neither : (one other : Bool) → not one ≡ false → not other ≡ false → not (one && other) ≡ false
neither true other h others = others
neither false other h others = absurd (cc)

module _ (one other : ℕ → Bool) (end : ℕ) where
  abbrev fails : (ℕ → Bool) → ℕ → Bool
  fails test i = not (test i)

  abbrev either : ℕ → Bool
  either i = not (one i && other i)

  pub IsLowest-either : (k j : Option ℕ) → IsLowest (fails one) 0 end k → IsLowest (fails other) 0 end j → IsLowest either 0 end (lower k j)
  IsLowest-either None None left right = λ i low high. neither (one i) (other i) (left i low high) (right i low high)
  IsLowest-either None (Some j) left right = (
    right.0,
    right.1,
    either-right (one j) (other j) right.2,
    λ i low high. neither (one i) (other i) (left i low (omega (arith, right.1))) (right.3 i low high),
  )
  IsLowest-either (Some k) None left right = (
    left.0,
    left.1,
    either-left (one k) (other k) left.2,
    λ i low high. neither (one i) (other i) (left.3 i low high) (right i low (omega (arith, left.1))),
  )
  IsLowest-either (Some k) (Some j) left right = elim (cases_lt j k) [
    | inl low ↦
        let least : j ≡ min j k = omega arith in
        subst (λ place. IsLowest either 0 end (Some place)) least (right.0, right.1, either-right (one j) (other j) right.2, λ i from high. neither (one i) (other i) (left.3 i from (omega arith)) (right.3 i from high))
    | inr from ↦
        let least : k ≡ min j k = omega arith in
        subst (λ place. IsLowest either 0 end (Some place)) least (left.0, left.1, either-left (one k) (other k) left.2, λ i low high. neither (one i) (other i) (left.3 i low high) (right.3 i low (omega arith)))
  ]
