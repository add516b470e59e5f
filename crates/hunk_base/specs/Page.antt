-- The sites of one page of a hunk, by rising offset.
use Rattle.std.specs.Prelude.{ℕ, ◌+◌, ◌*◌, ◌^◌, ◌≤◌, List, [], ◌∷◌, length, take, drop}
use Rattle.hunk_base.specs.Sites.{StandFrom}

-- the sites are apart and in order, at offsets of 32 bits
abbrev pub AreSpaced : {T : Type 0} → List (ℕ × T) → Type 0
AreSpaced sites = StandFrom 0 (2 ^ 32 + 3) sites

-- the bytes of each site lie at `from` or after it, and before `to`
abbrev pub LieWithin : {T : Type 0} → ℕ → ℕ → List (ℕ × T) → Type 0
LieWithin from to [] = Unit {0}
LieWithin from to (site ∷ sites) = (from ≤ site.0) × (site.0 + 4 ≤ to) × LieWithin from to sites

-- each site begins in the page with this number, so that it ends at most three bytes after it
abbrev pub LieInPage : {T : Type 0} → ℕ → List (ℕ × T) → Type 0
LieInPage number sites = LieWithin (4096 * number) (4096 * number + 4099) sites

-- a site at the offset fits in at this place: those before the place end at the offset or before it, and the others begin
-- after its four bytes
pub record IsFreePlace {T : Type 0} (sites : List (ℕ × T)) (offset place : ℕ) : Type 0 where
  pub inside : place ≤ length sites
  pub before : LieWithin 0 offset (take place sites)
  pub after : LieWithin (offset + 4) (2 ^ 32 + 3) (drop place sites)
