-- How many hunks all units of an object file have.
use Rattle.std.proofs.Common.{◌+◌, ◌^◌, ◌<◌, ◌≤◌, ℕ, List, [], ◌∷◌, length, sum_by, arith}
use Rattle.std.specs.List.{enumerate_from, flat_map}
use Rattle.std.proofs.lemmas.List.{length-append}
use Rattle.std.proofs.lemmas.List.Sums.{sum_by-cons}
use Rattle.std.proofs.lemmas.List.FromFn.{length-enumerate_from}
use Rattle.hunk_objects.specs.ProgramUnit.{ObjectUnit, hunk_count}
use Rattle.hunk_objects.specs.UnitHunk.{ObjectHunk}
use Rattle.hunk_text.specs.Listing.{object_line, object_listing, unit_hunk_lines, unit_line, unit_lines}

some-each : {X : Type 0} (part : X → List ℕ) (xs : List X) → ((x : X) → 1 ≤ length (part x)) → length xs ≤ length (flat_map part xs)
some-each part [] some = omega arith
some-each part (x ∷ xs) some = omega (arith, length-append (part x) (flat_map part xs), some x, some-each part xs some)

unit_hunk_lines-some : (hunk : ℕ × ObjectHunk) → 1 ≤ length (unit_hunk_lines hunk)
unit_hunk_lines-some hunk = omega arith

unit_lines-hunks : (unit : ℕ × ObjectUnit) → hunk_count unit.1 ≤ length (unit_lines unit)
unit_lines-hunks unit =
    let hunks = enumerate_from 0 unit.1.hunks in
    omega (arith, length-enumerate_from 0 unit.1.hunks, some-each unit_hunk_lines hunks unit_hunk_lines-some, length-append (unit_line unit.0 unit.1.name) (flat_map unit_hunk_lines hunks))

-- each hunk has a line
pub hunk_count-le : (number : ℕ) (units : List ObjectUnit) → sum_by hunk_count units ≤ length (flat_map unit_lines (enumerate_from number units))
hunk_count-le number [] = omega arith
hunk_count-le number (unit ∷ units) =
    omega (
      arith,
      sum_by-cons hunk_count unit units,
      unit_lines-hunks (number, unit),
      hunk_count-le (number + 1) units,
      length-append (unit_lines (number, unit)) (flat_map unit_lines (enumerate_from (number + 1) units)),
    )

-- so a listing that can be counted has hunks that can be counted
pub hunk_count-fits : (units : List ObjectUnit) → length (object_listing units) < 2 ^ 64 → sum_by hunk_count units < 2 ^ 64
hunk_count-fits units fits =
    omega (arith, hunk_count-le 0 units, length-append (object_line (length units) (sum_by hunk_count units)) (flat_map unit_lines (enumerate_from 0 units)))
