-- The units of object files, each with its place: the number of its file, and its number there.
use Rattle.std.specs.Prelude.{◌≡◌, ℕ, ◌+◌, List, [], ◌∷◌, ◌++◌, length, map}
use Rattle.std.specs.List.{range_with_len, zip}
use Rattle.hunk_objects.specs.ProgramUnit.{IsObjectOf, ObjectUnit}
use Rattle.hunk_tool.specs.declared.object_files.UnitPlace.{UnitPlace}

abbrev pub FileUnit : Type 0
FileUnit = UnitPlace × ObjectUnit

-- the places of so many units of a file, numbered from 0
abbrev pub places_of : (file count : ℕ) → List UnitPlace
places_of file count = map (λ number. record { file = file; number = number }) (range_with_len 0 count)

-- these units of a file, with their places
abbrev pub placed : (file : ℕ) → List ObjectUnit → List FileUnit
placed file units = zip (places_of file (length units)) units

-- the units alone
abbrev pub units_of : List FileUnit → List ObjectUnit
units_of units = map (λ unit. unit.1) units

-- The bytes of each file are an object file, and these are the units of all, in order. The files are
-- numbered from this number on.
abbrev pub AreUnitsFrom : ℕ → List (List ℕ) → List FileUnit → Type 0
AreUnitsFrom number [] units = units ≡ []
AreUnitsFrom number (bytes ∷ files) units =
    (first : List ObjectUnit) × (others : List FileUnit) × IsObjectOf first bytes × AreUnitsFrom (number + 1) files others
    × (units ≡ placed number first ++ others)

abbrev pub AreFileUnits : List FileUnit → List (List ℕ) → Type 0
AreFileUnits units files = AreUnitsFrom 0 files units
