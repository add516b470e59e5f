-- The names in a list, one after another.
use Rattle.std.proofs.Common.{◌≡◌, ◌∙◌, ℕ, suc, ◌+◌, ◌<◌, ◌≤◌, ◌==◌, Bool, true, false, cond, not, List, [], ◌∷◌, None, Some, drop, length, take, if◌then◌else◌, ap, refl, sym, subst, arith}
use Rattle.std.specs.Prelude.{position}
use Rattle.std.specs.List.{position_or_len}
use Rattle.std.proofs.lemmas.Grind.{common_steps}
use Rattle.amihunk_c.specs.Keeping.{names_in, with_front}

abbrev ends : ℕ → Bool
ends byte = byte == 0

-- the names of a list whose first one has n bytes
abbrev Splits : List ℕ → ℕ → Type 0
Splits bytes n = names_in bytes ≡ take n bytes ∷ names_in (drop (suc n) bytes)

-- the names of a list that begins with this byte
abbrev chosen : ℕ → List ℕ → Bool → List (List ℕ)
chosen byte bytes ended = if ended then [] ∷ names_in bytes else with_front byte (names_in bytes)

split-at : (bytes : List ℕ) → position_or_len ends bytes < length bytes → Splits bytes (position_or_len ends bytes)
split-at [] within = absurd (omega (arith, within))
split-at (byte ∷ bytes) within = by (ends byte) refl within (split-at bytes)
  where
    rest : ℕ
    rest = position_or_len ends bytes

    by : (ended : Bool) → ended ≡ ends byte → cond (not ended) (1 + rest) 0 < suc (length bytes) → (rest < length bytes → Splits bytes rest) → Splits (byte ∷ bytes) (cond (not ended) (1 + rest) 0)
    by true is within next = ap (chosen byte bytes) (sym is)
    by false is within next = let same : suc rest ≡ 1 + rest = omega arith in subst (Splits (byte ∷ bytes)) same (ap (chosen byte bytes) (sym is) ∙ ap (with_front byte) (next (omega (arith, within))))

none-at : (bytes : List ℕ) → length bytes ≤ position_or_len ends bytes → names_in bytes ≡ []
none-at [] past = refl
none-at (byte ∷ bytes) past = by (ends byte) refl past (none-at bytes)
  where
    rest : ℕ
    rest = position_or_len ends bytes

    by : (ended : Bool) → ended ≡ ends byte → suc (length bytes) ≤ cond (not ended) (1 + rest) 0 → (length bytes ≤ rest → names_in bytes ≡ []) → names_in (byte ∷ bytes) ≡ []
    by true is past next = absurd (omega (arith, past))
    by false is past next = ap (chosen byte bytes) (sym is) ∙ ap (with_front byte) (next (omega (arith, past)))

-- A list with a zero byte has the name that ends there, and the names after it.
pub names_in-next : (bytes : List ℕ) (end : ℕ) → position ends bytes ≡ Some end → Splits bytes end
names_in-next bytes end found =
    let at : position_or_len ends bytes ≡ end = grind (arith, common_steps) in
    let inside : end < length bytes = grind (arith, common_steps) in
    subst (Splits bytes) at (split-at bytes (omega (arith, at, inside)))

-- One without has none.
pub names_in-none : (bytes : List ℕ) → position ends bytes ≡ None → names_in bytes ≡ []
names_in-none bytes found = let past : length bytes ≤ position_or_len ends bytes = grind (arith, common_steps) in none-at bytes past
