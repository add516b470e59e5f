-- The names that hunks define.
use Rattle.std.specs.Prelude.{◌≡◌, ℕ, List, Bool, Option, nat_eq}
use Rattle.std.specs.Cmp.Lexicographic.{pointwise}
use Rattle.std.specs.List.{find, list_any}
use Rattle.hunk_objects.specs.UnitHunk.{ObjectHunk}
use Rattle.hunk_origins.specs.Origins.{Origin}

-- whether two names are equal
abbrev pub is_name : (name other : List ℕ) → Bool
is_name name other = pointwise nat_eq name other

-- whether a hunk defines the name
abbrev pub defines : (name : List ℕ) → ObjectHunk → Bool
defines name hunk = list_any (λ definition. is_name name definition.0) hunk.definitions

-- whether one of the hunks does
abbrev pub is_defined : (name : List ℕ) → List Origin → Bool
is_defined name hunks = list_any (λ origin. defines name origin.hunk) hunks

-- the first of the hunks that does
abbrev pub first_definition : (name : List ℕ) → List Origin → Option Origin
first_definition name hunks = find (λ origin. defines name origin.hunk) hunks

-- the names in this list are those that the hunks define
abbrev pub AreDefinedBy : List Origin → (names : List (List ℕ)) → Type 0
AreDefinedBy hunks names = (name : List ℕ) → list_any (is_name name) names ≡ is_defined name hunks
