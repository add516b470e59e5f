-- What holds of two load files that compare as the same.
use Rattle.std.proofs.Common.{◌≡◌, ◌↔◌, ◌==◌, ◌++◌, ◌&&◌, inl, inr, List, [], ◌∷◌, length, ℕ, Option, Some, None, true, is_none, refl}
use Rattle.std.proofs.lemmas.Bool.{cases_Bool, eqb-true}
use Rattle.hunk_loadfile.specs.Difference.{first_difference}
use Rattle.hunk_loadfile.specs.InfoDifference.{first_info_difference}
use Rattle.hunk_loadfile.specs.LoadHunk.{FileHunk}
use Rattle.hunk_loadfile.specs.declared.difference.Difference.{Difference}
use Rattle.hunk_loadfile.specs.declared.info_difference.InfoDifference.{InfoDifference}
use Rattle.hunk_loadfile.proofs.DifferenceLawLemmas.{no-difference}
use Rattle.hunk_loadfile.proofs.InfoDifferenceLawLemmas.{no-info_difference}
use Rattle.hunk_text.specs.DifferenceText.{difference_text, info_difference_text}
use Rattle.hunk_tool.specs.Compare.{comparison_text, info_difference}
use Rattle.hunk_tool.specs.CopyLaws.{NothingIsTold, SameHasTheSameInfo, SameMeansTheSame}

is_none-true : {X : Type 0} (item : Option X) → is_none item ≡ true → item ≡ None
is_none-true None h = refl
is_none-true (Some x) h = absurd (cc)

both-none : {X Y : Type 0} (one : Option X) (other : Option Y) → (is_none one && is_none other) ≡ true → (one ≡ None) × (other ≡ None)
both-none None other h = (refl, is_none-true other h)
both-none (Some x) other h = absurd (cc)

none-both : {X Y : Type 0} (one : Option X) (other : Option Y) → one ≡ None → other ≡ None → (is_none one && is_none other) ≡ true
none-both one other is others = rw (is, others) refl

-- files with no difference have equally many hunks
counted-same : (first second : List FileHunk) → first_difference first second ≡ None → length first ≡ length second
counted-same first second none = elim (cases_Bool (length first == length second)) [
  | inl same ↦ eqb-true (length first) (length second) same
  | inr unlike ↦ let no = rw unlike at none in absurd (cc)
]

pub same-means_the_same : SameMeansTheSame
same-means_the_same first second one other = (
  λ same. (no-difference first second one other).0 (both-none {Y = InfoDifference} (first_difference first second) None same).0,
  λ same. none-both {Y = InfoDifference} (first_difference first second) None ((no-difference first second one other).1 same) refl,
)

pub same-has_the_same_info : SameHasTheSameInfo
same-has_the_same_info first second one other = (
  λ same.
      let none = both-none (first_difference first second) (first_info_difference first second) same in (
        (no-difference first second one other).0 none.0,
        (no-info_difference first second (counted-same first second none.0)).0 none.1,
      ),
  λ same.
      let none = (no-difference first second one other).1 same.0 in
      none-both (first_difference first second) (first_info_difference first second) none ((no-info_difference first second (counted-same first second none)).1 same.1),
)

-- ---- the text

line-some : (text : List ℕ) → text ++ 10 ∷ [] ≡ [] → ⊥
line-some [] none = cc
line-some (byte ∷ text) none = cc

pub nothing-told : NothingIsTold
nothing-told with_symbols first second = go (first_difference first second) (info_difference with_symbols first second)
  where
    go : (difference : Option Difference) (info : Option InfoDifference) → (comparison_text first second difference info ≡ []) ↔ ((is_none difference && is_none info) ≡ true)
    go (Some difference) info = (λ none. absurd (line-some (difference_text difference) none), λ same. absurd (cc))
    go None (Some difference) = (λ none. absurd (line-some (info_difference_text first second difference) none), λ same. absurd (cc))
    go None None = (λ none. refl, λ same. refl)
