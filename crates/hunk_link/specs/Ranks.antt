-- The hunks of program units in the order in which they are linked (our own rule): the units in the
-- order of their list, and the hunks in the order of their unit. The rank of a hunk is its place in
-- that order, from 0.
use Rattle.std.specs.Prelude.{◌≡◌, ℕ, suc, ◌+◌, ◌<◌, ◌≤◌, List, [], ◌∷◌, ◌++◌, length, map}
use Rattle.std.specs.List.{All, enumerate_from, flat_map}
use Rattle.hunk_loadfile.specs.Rules.{most_hunks}
use Rattle.hunk_objects.specs.ProgramUnit.{ObjectUnit}
use Rattle.hunk_objects.specs.UnitHunk.{IsUnitHunk, ObjectHunk}

-- what the type of a unit says of its hunks
abbrev pub IsUnit : ObjectUnit → Type 0
IsUnit unit = All IsUnitHunk unit.hunks

-- A hunk, the index of its unit and its number in that unit; and of that unit the rank of the first
-- hunk and the number of hunks.
pub record RankedHunk : Type 0 where
  pub unit : ℕ
  pub number : ℕ
  pub first : ℕ
  pub count : ℕ
  pub hunk : ObjectHunk

abbrev pub rank_of : RankedHunk → ℕ
rank_of ranked = ranked.first + ranked.number

-- the hunks of the unit with this index, the first of which has this rank
abbrev pub unit_hunks : (unit first : ℕ) → List ObjectHunk → List RankedHunk
unit_hunks unit first hunks =
    map (λ hunk. record { unit = unit; number = hunk.0; first = first; count = length hunks; hunk = hunk.1 }) (enumerate_from 0 hunks)

-- the hunks of the units from this index on, the first of which has this rank
abbrev pub hunks_from : (unit first : ℕ) → List ObjectUnit → List RankedHunk
hunks_from unit first [] = []
hunks_from unit first (u ∷ units) = unit_hunks unit first u.hunks ++ hunks_from (suc unit) (first + length u.hunks) units

abbrev pub hunks_of : List ObjectUnit → List RankedHunk
hunks_of units = hunks_from 0 0 units

-- Its number is one of its unit, whose hunks have ranks as a load file may have them.
pub record IsRanked (ranked : RankedHunk) : Type 0 where
  pub in_unit : ranked.number < ranked.count
  pub few : ranked.first + ranked.count ≤ most_hunks

-- the hunk has this number in the unit of this index
pub record IsAt (unit number : ℕ) (ranked : RankedHunk) : Type 0 where
  pub unit_is : ranked.unit ≡ unit
  pub number_is : ranked.number ≡ number

-- ---- what the hunks have, in order, each with its hunk

-- what one hunk has
abbrev pub items_of : {T : Type 0} → (ObjectHunk → List T) → RankedHunk → List (RankedHunk × T)
items_of items ranked = map (λ item. (ranked, item)) (items ranked.hunk)

abbrev pub all_items : {T : Type 0} → (ObjectHunk → List T) → List RankedHunk → List (RankedHunk × T)
all_items items hunks = flat_map (items_of items) hunks
