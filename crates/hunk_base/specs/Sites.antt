-- The sites of a hunk: a map from offsets to targets. A site is the four bytes from its offset, and no two share a byte.
-- (The AmigaDOS Manual, 3rd edition, the relocation blocks of its section on the binary file structure. That sites may not
-- share a byte is a rule of our own.)
use Rattle.std.specs.Borrow.{Bor}
use Rattle.std.specs.Prelude.{ℕ, ◌+◌, ◌<◌, ◌≤◌, List, [], ◌∷◌, Option, IsSome}
use Rattle.std.specs.Ordering.{nat_cmp}
use Rattle.std.specs.Map.{lookup}
use Rattle.std.specs.BTreeMap.{is_at}

-- the limit that the sites' bytes lie below, and the offsets with their targets, by rising offset
pub record SiteMap (T : Type 0) : Type 0 where
  pub limit : ℕ
  pub entries : List (ℕ × T)

-- the target of the site at an offset
abbrev pub target_at : {T : Type 0} → List (ℕ × T) → ℕ → Option T
target_at entries offset = lookup (is_at (nat_cmp offset)) entries

-- the sites at two offsets share a byte
abbrev pub SharesByte : ℕ → ℕ → Type 0
SharesByte a b = (a < b + 4) × (b < a + 4)

-- a site at the offset shares a byte with one of these
abbrev pub Meets : {T : Type 0} → List (ℕ × T) → ℕ → Type 0
Meets entries offset = (other : ℕ) × IsSome (target_at entries other) × SharesByte offset other

-- Each site begins where the one before it ends, or later, and the last one ends at the limit or earlier.
-- The first one begins at `from` or later.
abbrev pub StandFrom : {T : Type 0} → ℕ → ℕ → List (ℕ × T) → Type 0
StandFrom from limit [] = Unit {0}
StandFrom from limit (e ∷ es) = (from ≤ e.0) × (e.0 + 4 ≤ limit) × StandFrom (e.0 + 4) limit es

-- the sites of the map are apart, in order and inside its limit
abbrev pub AreApart : {T : Type 0} → SiteMap T → Type 0
AreApart m = StandFrom 0 m.limit m.entries

-- what an item of a walk shows
abbrev pub site_shown : {T : Type 0} → ℕ × Bor T → ℕ × T
site_shown p = (p.0, p.1.now)
