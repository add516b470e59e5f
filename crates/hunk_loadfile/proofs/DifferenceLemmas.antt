-- What holds of the first difference of two load files.
use Rattle.std.proofs.Common.{◌≡◌, ◌<◌, ◌+◌, ◌==◌, ◌&&◌, ◌∙◌, Bool, true, false, not, inl, inr, ℕ, min, Option, Some, None, List, [], ◌∷◌, if◌then◌else◌, get_or, slice_get, eq-eqb, refl, sym, ap, subst, arith}
use Rattle.std.specs.Option.{option_eq}
use Rattle.std.specs.Ordering.{nat_cmp}
use Rattle.std.specs.Cmp.{nat_cmp_is}
use Rattle.std.specs.declared.cmp.Ordering.TheVariants.{Equal}
use Rattle.std.proofs.lemmas.Bool.{cases_Bool, cases_eq, cases_lt, eqb-true}
use Rattle.std.proofs.lemmas.Option.{get_or_from_slice_get, slice_get_within}
use Rattle.std.proofs.lemmas.List.Sums.{get_or-le-sum_by}
use Rattle.std.specs.List.{All}
use Rattle.hunk_base.specs.Sites.{StandFrom, target_at}
use Rattle.hunk_base.proofs.SitesLemmas.{is_at-apart}
use Rattle.hunk_loadfile.specs.Difference.{LiesInItsSize, has_same_target}
use Rattle.hunk_loadfile.specs.LoadHunk.{FileHunk}
use Rattle.hunk_loadfile.specs.Rules.{IsLoadFile}
use Rattle.hunk_loadfile.proofs.LoadHunkLemmas.{most_content-le}
use Rattle.hunk_loadfile.proofs.LowestLemmas.{IsLowest, IsLowest-one, IsLowest-same}

pub both-true : (one other : Bool) → (one && other) ≡ true → (one ≡ true) × (other ≡ true)
both-true true other h = (refl, h)
both-true false other h = absurd (cc)

-- ---- targets

-- no site before the first one
pub target_at-below : {T : Type 0} (from limit i : ℕ) (sites : List (ℕ × T)) → StandFrom from limit sites → i < from → target_at sites i ≡ None
target_at-below from limit i [] apart low = refl
target_at-below from limit i (site ∷ sites) apart low =
    rw (is_at-apart i site.0 (λ same. absurd (omega (arith, apart.0, same)))) (target_at-below (site.0 + 4) limit i sites apart.2 (omega (arith, apart.0)))

-- the first site is found at its offset
pub target_at-here : {T : Type 0} (site : ℕ × T) (sites : List (ℕ × T)) (offset : ℕ) → offset ≡ site.0 → target_at (site ∷ sites) offset ≡ Some site.1
target_at-here site sites offset same =
    let equal : nat_cmp offset site.0 ≡ Equal = sym (nat_cmp_is offset site.0 Equal same) in
    rw equal refl

-- and nowhere else
pub target_at-apart : {T : Type 0} (site : ℕ × T) (sites : List (ℕ × T)) (offset : ℕ) → (offset ≡ site.0 → ⊥) → target_at (site ∷ sites) offset ≡ target_at sites offset
target_at-apart site sites offset apart = rw (is_at-apart offset site.0 apart) refl

-- ---- the sites of two hunks

-- one of them has a site or a target that the other one has not
abbrev pub is_unlike : List (ℕ × ℕ) → List (ℕ × ℕ) → ℕ → Bool
is_unlike first second offset = not (has_same_target first second offset)

-- where two lists of sites first differ, as they are walked in step
abbrev pub unlike_site : List (ℕ × ℕ) → List (ℕ × ℕ) → Option ℕ
unlike_site [] [] = None
unlike_site [] (y ∷ ys) = Some y.0
unlike_site (x ∷ xs) [] = Some x.0
unlike_site (x ∷ xs) (y ∷ ys) = if x.0 == y.0 && x.1 == y.1 then unlike_site xs ys else Some (min x.0 y.0)

-- what the look-ups say
like-from : (first second : List (ℕ × ℕ)) (offset : ℕ) (one other : Option ℕ) → target_at first offset ≡ one → target_at second offset ≡ other → is_unlike first second offset ≡ not (option_eq ◌==◌ one other)
like-from first second offset one other is others = rw (is, others) refl

-- before the first sites of both
like-below : (from limit offset : ℕ) (first second : List (ℕ × ℕ)) → StandFrom from limit first → StandFrom from limit second → offset < from → is_unlike first second offset ≡ false
like-below from limit offset first second apart others low =
    like-from first second offset None None (target_at-below from limit offset first apart low) (target_at-below from limit offset second others low)

-- a site that both begin with makes no difference
like-behind : (limit offset : ℕ) (x y : ℕ × ℕ) (xs ys : List (ℕ × ℕ)) → StandFrom (x.0 + 4) limit xs → StandFrom (y.0 + 4) limit ys → x.0 ≡ y.0 → x.1 ≡ y.1
    → is_unlike xs ys offset ≡ is_unlike (x ∷ xs) (y ∷ ys) offset
like-behind limit offset x y xs ys apart others same target = elim (cases_eq offset x.0) [
  | inl here ↦
      like-from xs ys offset None None (target_at-below (x.0 + 4) limit offset xs apart (omega arith)) (target_at-below (y.0 + 4) limit offset ys others (omega arith))
      ∙ sym (ap not (eq-eqb x.1 y.1 target))
      ∙ sym (like-from (x ∷ xs) (y ∷ ys) offset (Some x.1) (Some y.1) (target_at-here x xs offset here) (target_at-here y ys offset (omega arith)))
  | inr elsewhere ↦
      sym (like-from (x ∷ xs) (y ∷ ys) offset (target_at xs offset) (target_at ys offset) (target_at-apart x xs offset elsewhere) (target_at-apart y ys offset (λ e. elsewhere (e ∙ sym same))))
]

-- two sites at one offset with different targets, or at two offsets
unlike-first : (limit : ℕ) (x y : ℕ × ℕ) (xs ys : List (ℕ × ℕ)) → StandFrom x.0 limit (x ∷ xs) → StandFrom y.0 limit (y ∷ ys) → (x.0 == y.0 && x.1 == y.1) ≡ false
    → is_unlike (x ∷ xs) (y ∷ ys) (min x.0 y.0) ≡ true
unlike-first limit x y xs ys apart others unequal = elim (cases_eq x.0 y.0) [
  | inl same ↦
      like-from (x ∷ xs) (y ∷ ys) (min x.0 y.0) (Some x.1) (Some y.1) (target_at-here x xs (min x.0 y.0) (omega arith)) (target_at-here y ys (min x.0 y.0) (omega arith))
      ∙ ap not (rw (eq-eqb x.0 y.0 same) at unequal)
  | inr unlike ↦ elim (cases_lt x.0 y.0) [
    | inl low ↦ like-from (x ∷ xs) (y ∷ ys) (min x.0 y.0) (Some x.1) None (target_at-here x xs (min x.0 y.0) (omega arith)) (target_at-below y.0 limit (min x.0 y.0) (y ∷ ys) others (omega arith))
    | inr high ↦ like-from (x ∷ xs) (y ∷ ys) (min x.0 y.0) None (Some y.1) (target_at-below x.0 limit (min x.0 y.0) (x ∷ xs) apart (omega arith)) (target_at-here y ys (min x.0 y.0) (omega arith))
  ]
]

pub IsLowest-unlike_site : (from start limit : ℕ) (first second : List (ℕ × ℕ)) → StandFrom from limit first → StandFrom start limit second → IsLowest (is_unlike first second) 0 limit (unlike_site first second)
IsLowest-unlike_site from start limit [] [] apart others = λ i low high. refl
IsLowest-unlike_site from start limit [] (y ∷ ys) apart others = (
  omega arith,
  omega (arith, others.1),
  like-from [] (y ∷ ys) y.0 None (Some y.1) refl (target_at-here y ys y.0 refl),
  λ i low high. like-below y.0 limit i [] (y ∷ ys) tt (omega arith, others.1, others.2) high,
)
IsLowest-unlike_site from start limit (x ∷ xs) [] apart others = (
  omega arith,
  omega (arith, apart.1),
  like-from (x ∷ xs) [] x.0 (Some x.1) None (target_at-here x xs x.0 refl) refl,
  λ i low high. like-below x.0 limit i (x ∷ xs) [] (omega arith, apart.1, apart.2) tt high,
)
IsLowest-unlike_site from start limit (x ∷ xs) (y ∷ ys) apart others = elim (cases_Bool (x.0 == y.0 && x.1 == y.1)) [
  | inl same ↦
      let equal = both-true (x.0 == y.0) (x.1 == y.1) same in
      rw same (
      IsLowest-same (is_unlike xs ys) (is_unlike (x ∷ xs) (y ∷ ys)) 0 limit (unlike_site xs ys)
      (λ i low. like-behind limit i x y xs ys apart.2 others.2 (eqb-true x.0 y.0 equal.0) (eqb-true x.1 y.1 equal.1))
      (IsLowest-unlike_site (x.0 + 4) (y.0 + 4) limit xs ys apart.2 others.2)
      )
  | inr unequal ↦
      let one : StandFrom x.0 limit (x ∷ xs) = (omega arith, apart.1, apart.2) in
      let other : StandFrom y.0 limit (y ∷ ys) = (omega arith, others.1, others.2) in
      rw unequal (
        omega arith,
        omega (arith, apart.1),
        unlike-first limit x y xs ys one other unequal,
        λ i low high. like-below (min x.0 y.0) limit i (x ∷ xs) (y ∷ ys) (omega arith, apart.1, apart.2) (omega arith, others.1, others.2) high,
      )
]

-- the same sites
pub unlike_site-none : (first second : List (ℕ × ℕ)) → unlike_site first second ≡ None → first ≡ second
unlike_site-none [] [] none = refl
unlike_site-none [] (y ∷ ys) none = absurd (cc)
unlike_site-none (x ∷ xs) [] none = absurd (cc)
unlike_site-none (x ∷ xs) (y ∷ ys) none = elim (cases_Bool (x.0 == y.0 && x.1 == y.1)) [
  | inl same ↦
      let equal = both-true (x.0 == y.0) (x.1 == y.1) same in
      let rest = unlike_site-none xs ys (rw same at none) in
      let pair : x ≡ y = ap (λ (offset : ℕ). (offset, x.1)) (eqb-true x.0 y.0 equal.0) ∙ ap (λ (target : ℕ). (y.0, target)) (eqb-true x.1 y.1 equal.1) in
      ap (λ site. site ∷ xs) pair ∙ ap (λ sites. y ∷ sites) rest
  | inr unequal ↦ let no = rw unequal at none in absurd (cc)
]

-- maps with the same look-ups have the same sites
pub sites-same : (limit : ℕ) (first second : List (ℕ × ℕ)) → StandFrom 0 limit first → StandFrom 0 limit second → ((i : ℕ) → i < limit → has_same_target first second i ≡ true) → first ≡ second
sites-same limit first second apart others same =
    unlike_site-none first second
    (IsLowest-one (is_unlike first second) 0 limit (unlike_site first second) None (IsLowest-unlike_site 0 0 limit first second apart others) (λ i low high. ap not (same i high)))

-- ---- the hunks of a load file

-- are no larger than it may be
pub LiesInItsSize-from : (hunks : List FileHunk) → IsLoadFile hunks → All LiesInItsSize hunks
LiesInItsSize-from hunks valid i hunk low =
    let is = valid.each i hunk low in
    record {
      content = omega (arith, is.content, most_content-le (get_or hunks i hunk).kind (get_or hunks i hunk).size);
      limit = is.limit;
      small = omega (arith, valid.small, get_or-le-sum_by (λ (h : FileHunk). h.size) hunks i hunk low);
    }

pub LiesInItsSize-at : (hunks : List FileHunk) (i : ℕ) (hunk : FileHunk) → IsLoadFile hunks → slice_get hunks i ≡ Some hunk → LiesInItsSize hunk
LiesInItsSize-at hunks i hunk valid is = subst LiesInItsSize (get_or_from_slice_get hunks i hunk hunk is) (LiesInItsSize-from hunks valid i hunk (slice_get_within hunks i hunk is))
