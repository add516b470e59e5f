-- What was told of a longword, one oddity after another.
use Rattle.std.proofs.Common.{◌≡◌, ℕ, Bool, List, Option, ◌++◌, map, append_assoc, ap, sym, ◌∙◌}
use Rattle.std.proofs.lemmas.List.{map-append}
use Rattle.hunk_lint.specs.Oddity.{lint_at, told_again, told_if}
use Rattle.hunk_lint.specs.declared.oddity.Oddity.{Oddity}
use Rattle.hunk_lint.specs.declared.oddity.LongwordLint.{LongwordLint}

told-more : (place : ℕ) (old new next : List LongwordLint) (some more : List Oddity) → new ≡ old ++ map (lint_at place) some → next ≡ new ++ map (lint_at place) more
    → next ≡ old ++ map (lint_at place) (some ++ more)
told-more place old new next some more before told =
    let f = lint_at place in
    told ∙ ap (λ xs. xs ++ map f more) before ∙ append_assoc old (map f some) (map f more) ∙ ap (λ xs. old ++ xs) (sym (map-append f some more))

pub told-first : (place : ℕ) (odd is_odd : Bool) (oddity : Oddity) (old new : List LongwordLint) → is_odd ≡ odd
    → new ≡ old ++ map (lint_at place) (told_if is_odd oddity) → new ≡ old ++ map (lint_at place) (told_if odd oddity)
told-first place odd is_odd oddity old new is told = told ∙ ap (λ b. old ++ map (lint_at place) (told_if b oddity)) is

pub told-then : (place : ℕ) (odd is_odd : Bool) (oddity : Oddity) (old new next : List LongwordLint) (some : List Oddity) → new ≡ old ++ map (lint_at place) some → is_odd ≡ odd
    → next ≡ new ++ map (lint_at place) (told_if is_odd oddity) → next ≡ old ++ map (lint_at place) (some ++ told_if odd oddity)
told-then place odd is_odd oddity old new next some before is told = told-more place old new next some (told_if odd oddity) before (told-first place odd is_odd oddity new next is told)

pub told-again : (place : ℕ) (hunk again : Option ℕ) (old new next : List LongwordLint) (some : List Oddity) → new ≡ old ++ map (lint_at place) some → again ≡ hunk
    → next ≡ new ++ map (lint_at place) (told_again again) → next ≡ old ++ map (lint_at place) (some ++ told_again hunk)
told-again place hunk again old new next some before is told =
    told-more place old new next some (told_again hunk) before (told ∙ ap (λ o. new ++ map (lint_at place) (told_again o)) is)
