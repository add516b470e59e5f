-- Where the hunks of a link are from: their units, each with its place, and their numbers there.
use Rattle.std.specs.Prelude.{ℕ, List, Option, map, option_map, slice_get}
use Rattle.std.specs.List.{enumerate_from, flat_map}
use Rattle.std.specs.Option.{option_and_then}
use Rattle.hunk_objects.specs.UnitHunk.{ObjectHunk}
use Rattle.hunk_tool.specs.ObjectFiles.{FileUnit}

-- a hunk, its number in its unit, and the unit with its place
pub record Origin : Type 0 where
  pub unit : FileUnit
  pub number : ℕ
  pub hunk : ObjectHunk

-- the hunks of a unit from this number on
abbrev pub origins_from : FileUnit → ℕ → List ObjectHunk → List Origin
origins_from unit number hunks = map (λ hunk. record { unit = unit; number = hunk.0; hunk = hunk.1 }) (enumerate_from number hunks)

abbrev pub unit_origins : FileUnit → List Origin
unit_origins unit = origins_from unit 0 unit.1.hunks

-- the hunks of all units, in the order of linking
abbrev pub origins : List FileUnit → List Origin
origins units = flat_map unit_origins units

-- ---- one of them

-- the hunk of a unit that has this number
abbrev pub hunk_at : (number : ℕ) → FileUnit → Option Origin
hunk_at number unit = option_map (λ hunk. record { unit = unit; number = number; hunk = hunk }) (slice_get unit.1.hunks number)

-- the hunk with this number of the unit with this index
abbrev pub origin_at : List FileUnit → (unit hunk : ℕ) → Option Origin
origin_at units unit hunk = option_and_then (hunk_at hunk) (slice_get units unit)
