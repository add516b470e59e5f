-- The names that hunks define, one after another.
use Rattle.std.proofs.Common.{◌≡◌, ◌∙◌, ◌||◌, ℕ, Bool, true, false, List, [], ◌∷◌, ◌++◌, if◌then◌else◌, refl, sym, ap}
use Rattle.std.specs.Cmp.Lexicographic.{same_text}
use Rattle.std.specs.List.{list_any}
use Rattle.std.proofs.lemmas.List.Folds.{list_any-append}
use Rattle.indexmap.specs.IndexSet.{insert_key}
use Rattle.hunk_origins.specs.DefinedNames.{is_name}

or_false : (b : Bool) → (b || false) ≡ b
or_false true = refl
or_false false = refl

or_true : (b : Bool) → (b || true) ≡ true
or_true true = refl
or_true false = refl

-- which names are there after one is inserted
pub list_any-insert : (other : List ℕ) (names : List (List ℕ)) (name : List ℕ) → list_any (is_name other) (insert_key is_name names name) ≡ (list_any (is_name other) names || is_name other name)
list_any-insert other names name = by (list_any (is_name name) names) (is_name other name) refl refl
  where
    test : List ℕ → Bool
    test = is_name other

    by : (there same : Bool) → there ≡ list_any (is_name name) names → same ≡ is_name other name
        → list_any test (if there then names else names ++ name ∷ []) ≡ (list_any test names || is_name other name)
    by false same absent is = list_any-append test names (name ∷ []) ∙ ap (λ b. list_any test names || b) (or_false (is_name other name))
    by true false there is = sym (ap (λ b. list_any test names || b) (sym is) ∙ or_false (list_any test names))
    by true true there is = ap (λ (n : List ℕ). list_any (is_name n) names) (same_text other name is) ∙ sym there ∙ sym (ap (λ b. list_any test names || b) (sym is) ∙ or_true (list_any test names))
