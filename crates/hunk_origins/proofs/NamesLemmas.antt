-- The entries of one more hunk, or of one more unit.
use Rattle.std.proofs.Common.{◌≡◌, ◌∙◌, ℕ, ◌+◌, ◌<◌, ◌≤◌, List, ◌++◌, ap, get_or, length, sym, take, zero-add, arith}
use Rattle.std.specs.List.{enumerate_from, flat_map}
use Rattle.std.proofs.lemmas.List.{get_or-map, length-map, take_all}
use Rattle.std.proofs.lemmas.List.FromFn.{get_or-enumerate_from, length-enumerate_from}
use Rattle.hunk_link.proofs.ItemsLemmas.{flat_map-more}
use Rattle.hunk_objects.specs.UnitHunk.{ObjectHunk}
use Rattle.hunk_tool.specs.ObjectFiles.{FileUnit}
use Rattle.hunk_origins.specs.Origins.{Origin, origins_from}

-- an element of a list, with its number
numbered-at : {X : Type 0} (xs : List X) (number : ℕ) (x : X) → number < length xs → x ≡ get_or xs number x → (number, x) ≡ get_or (enumerate_from 0 xs) number (number, x)
numbered-at {X} xs number x within is =
    let with_number : ℕ → ℕ × X = λ n. (n, get_or xs number x) in
    let with_element : X → ℕ × X = λ y. (number, y) in
    ap with_element is ∙ sym (ap with_number (zero-add number)) ∙ sym (get_or-enumerate_from 0 xs number (number, x) within)

-- one more of them
pub numbered-more : {X Y : Type 0} (f : ℕ × X → List Y) (xs : List X) (number : ℕ) (x : X) → number < length xs → x ≡ get_or xs number x
    → flat_map f (take (number + 1) (enumerate_from 0 xs)) ≡ flat_map f (take number (enumerate_from 0 xs)) ++ f (number, x)
numbered-more f xs number x within is =
    flat_map-more f (enumerate_from 0 xs) number (number, x) (omega (arith, length-enumerate_from 0 xs, within)) (numbered-at xs number x within is)

-- the hunk with this number, and where it is
abbrev pub origin_of : FileUnit → ℕ × ObjectHunk → Origin
origin_of unit hunk = record { unit = unit; number = hunk.0; hunk = hunk.1 }

-- one more hunk of a unit
pub origins-more : {Y : Type 0} (f : Origin → List Y) (unit : FileUnit) (hunks : List ObjectHunk) (number : ℕ) (hunk : ObjectHunk) → number < length hunks → hunk ≡ get_or hunks number hunk
    → flat_map f (take (number + 1) (origins_from unit 0 hunks)) ≡ flat_map f (take number (origins_from unit 0 hunks)) ++ f (origin_of unit (number, hunk))
origins-more f unit hunks number hunk within is =
    let numbered = enumerate_from 0 hunks in
    let one = origin_of unit (number, hunk) in
    let counted : number < length numbered = omega (arith, length-enumerate_from 0 hunks, within) in
    flat_map-more f (origins_from unit 0 hunks) number one (omega (arith, length-map numbered (origin_of unit), counted))
    (ap (origin_of unit) (numbered-at hunks number hunk within is) ∙ sym (get_or-map (origin_of unit) numbered number (number, hunk) one counted))

-- all of them
pub origins-all : (unit : FileUnit) (hunks : List ObjectHunk) (number : ℕ) → length hunks ≤ number → take number (origins_from unit 0 hunks) ≡ origins_from unit 0 hunks
origins-all unit hunks number all = take_all number (origins_from unit 0 hunks) (omega (arith, length-map (enumerate_from 0 hunks) (origin_of unit), length-enumerate_from 0 hunks, all))
