-- Room that is used up by the elements of a list, one after another; and limits that units keep.
use Rattle.std.proofs.Common.{◌≡◌, ℕ, ◌+◌, ◌<◌, ◌≤◌, Bool, List, length, get_or, sum_by, take, ap, arith}
use Rattle.std.proofs.lemmas.List.Sums.{sum_by_more, sum_by_more_le}
use Rattle.hunk_loadfile.specs.Rules.{most_carried, most_hunks, most_size}
use Rattle.hunk_objects.specs.ProgramUnit.{ObjectUnit, hunk_count}
use Rattle.hunk_link.specs.Limits.{IsHunkCount, IsSmall, carried_by, carried_longwords, size_of}
use Rattle.hunk_link.specs.Ranks.{hunks_of}
use Rattle.hunk_link.proofs.RanksLemmas.{length-hunks_of, sum_by-hunks_of}

-- ---- room

-- what is left behind one more element
pub room-more : {X : Type 0} (f : X → ℕ) (xs : List X) (i : ℕ) (x : X) (room left next : ℕ) → i < length xs → x ≡ get_or xs i x
    → left + sum_by f (take i xs) ≡ room → next + f x ≡ left → next + sum_by f (take (i + 1) xs) ≡ room
room-more f xs i x room left next within is so_far here = omega (arith, sum_by_more f xs i x within, ap f is)

-- an element that takes more than what is left
pub room-passed : {X : Type 0} (f : X → ℕ) (xs : List X) (i : ℕ) (x : X) (room left : ℕ) → i < length xs → x ≡ get_or xs i x
    → left + sum_by f (take i xs) ≡ room → left < f x → room < sum_by f xs
room-passed f xs i x room left within is so_far here = omega (arith, sum_by_more_le f xs i x within, ap f is)

-- ---- of units

-- what the hunks of a unit take in memory, and what their symbols and debug blocks take in a file
abbrev pub unit_size : ObjectUnit → ℕ
unit_size unit = sum_by (λ hunk. hunk.size) unit.hunks

abbrev pub unit_carried : Bool → ObjectUnit → ℕ
unit_carried strip unit = sum_by (carried_by strip) unit.hunks

pub size_of-hunks_of : (units : List ObjectUnit) → size_of (hunks_of units) ≡ sum_by unit_size units
size_of-hunks_of units = sum_by-hunks_of (λ hunk. hunk.size) units

pub carried_longwords-hunks_of : (strip : Bool) (units : List ObjectUnit) → carried_longwords strip (hunks_of units) ≡ sum_by (unit_carried strip) units
carried_longwords-hunks_of strip units = sum_by-hunks_of (carried_by strip) units

pub IsHunkCount-from : (units : List ObjectUnit) → 1 ≤ sum_by hunk_count units → sum_by hunk_count units ≤ most_hunks → IsHunkCount (hunks_of units)
IsHunkCount-from units some few = let count = length-hunks_of units in record { some = omega arith; few = omega arith }

pub IsSmall-from : (strip : Bool) (units : List ObjectUnit) → sum_by unit_size units ≤ most_size → sum_by (unit_carried strip) units ≤ most_carried
    → IsSmall strip (hunks_of units)
IsSmall-from strip units small light =
    record { size = omega (arith, size_of-hunks_of units); carried = omega (arith, carried_longwords-hunks_of strip units) }
