-- The lines of a map, one hunk after another.
use Rattle.std.proofs.Common.{◌≡◌, ◌∙◌, ℕ, ◌+◌, ◌<◌, ◌≤◌, Bool, List, [], ◌∷◌, ◌++◌, length, drop, get_or, map, sum_by, take, ◌-◌, add-zero, refl, sym, ap, ap₂, append_assoc, arith}
use Rattle.std.specs.List.{enumerate_from}
use Rattle.std.proofs.lemmas.List.{drop-drop, drop_all, drop_more, get_or-map, length-append, length-drop, length-map, take_all}
use Rattle.std.proofs.lemmas.List.Sums.{sum_by-cons}
use Rattle.std.proofs.lemmas.List.FromFn.{length-enumerate_from}
use Rattle.hunk_objects.specs.ProgramUnit.{ObjectUnit, hunk_count}
use Rattle.hunk_objects.specs.UnitHunk.{ObjectHunk}
use Rattle.hunk_loadfile.specs.LoadHunk.{FileHunk}
use Rattle.hunk_link.specs.Carried.{carried, carried_ranked}
use Rattle.hunk_link.specs.Ranks.{RankedHunk, hunks_of}
use Rattle.hunk_link.specs.SymbolTable.{table_of}
use Rattle.hunk_link.proofs.RanksLemmas.{length-hunks_of}
use Rattle.hunk_origins.specs.Map.{map_from, map_lines}
use Rattle.hunk_tool.specs.ObjectFiles.{FileUnit, units_of}
use Rattle.hunk_origins.specs.Origins.{Origin, origins, origins_from, unit_origins}
use Rattle.hunk_tool.specs.declared.object_files.UnitPlace.{UnitPlace}

-- ---- the lines of the hunks

pub map_from-none : (names : List (List ℕ)) (number : ℕ) (hunks : List FileHunk) → map_from names number hunks [] ≡ []
map_from-none names number [] = refl
map_from-none names number (hunk ∷ hunks) = refl

-- those of the first origins, and then those of the others
pub map_from-split : (names : List (List ℕ)) (number : ℕ) (hunks : List FileHunk) (first rest : List Origin) → length first ≤ length hunks
    → map_from names number hunks (first ++ rest) ≡ map_from names number hunks first ++ map_from names (number + length first) (drop (length first) hunks) rest
map_from-split names number hunks [] rest few =
    ap₂ (λ from text. text ++ map_from names from hunks rest) (sym (add-zero number)) (sym (map_from-none names number hunks))
map_from-split names number [] (origin ∷ first) rest few = absurd (omega (arith, few))
map_from-split names number (hunk ∷ hunks) (origin ∷ first) rest few =
    let lines = map_lines names (number, (hunk, origin)) in
    ap (λ text. lines ++ text) (map_from-split names (number + 1) hunks first rest (omega (arith, few)))
    ∙ sym (append_assoc lines (map_from names (number + 1) hunks first) _)
    ∙ ap (λ from. (lines ++ map_from names (number + 1) hunks first) ++ map_from names from (drop (length first) hunks) rest) (omega arith)

-- ---- the hunks of a unit

-- the text of the hunks of a unit from this number on
abbrev pub unit_rest : (names : List (List ℕ)) (first number : ℕ) (hunks : List FileHunk) (unit : FileUnit) → List ℕ
unit_rest names first number hunks unit = map_from names (first + number) (drop number hunks) (origins_from unit number (drop number unit.1.hunks))

pub unit_rest-all : (names : List (List ℕ)) (first : ℕ) (hunks : List FileHunk) (unit : FileUnit) → map_from names first hunks (unit_origins unit) ≡ unit_rest names first 0 hunks unit
unit_rest-all names first hunks unit = ap (λ from. map_from names from hunks (unit_origins unit)) (sym (add-zero first))

pub unit_rest-more : (names : List (List ℕ)) (first number : ℕ) (hunks : List FileHunk) (unit : FileUnit) (hunk : FileHunk) (own : ObjectHunk)
    → number < length hunks → number < length unit.1.hunks → hunk ≡ get_or hunks number hunk → own ≡ get_or unit.1.hunks number own
    → unit_rest names first number hunks unit
    ≡ map_lines names (first + number, (hunk, record { unit = unit; number = number; hunk = own })) ++ unit_rest names first (number + 1) hunks unit
unit_rest-more names first number hunks unit hunk own within own_within is own_is =
    let left : drop number hunks ≡ hunk ∷ drop (number + 1) hunks = drop_more hunks number hunk within ∙ ap (λ (h : FileHunk). h ∷ drop (number + 1) hunks) (sym is) in
    let own_left : drop number unit.1.hunks ≡ own ∷ drop (number + 1) unit.1.hunks = drop_more unit.1.hunks number own own_within ∙ ap (λ (h : ObjectHunk). h ∷ drop (number + 1) unit.1.hunks) (sym own_is) in
    let lines = map_lines names (first + number, (hunk, record { unit = unit; number = number; hunk = own })) in
    ap₂ (λ (hs : List FileHunk) (os : List ObjectHunk). map_from names (first + number) hs (origins_from unit number os)) left own_left
    ∙ ap (λ from. lines ++ map_from names from (drop (number + 1) hunks) (origins_from unit (number + 1) (drop (number + 1) unit.1.hunks))) (omega arith)

pub unit_rest-none : (names : List (List ℕ)) (first number : ℕ) (hunks : List FileHunk) (unit : FileUnit) → length unit.1.hunks ≤ number → unit_rest names first number hunks unit ≡ []
unit_rest-none names first number hunks unit all =
    ap (λ (os : List ObjectHunk). map_from names (first + number) (drop number hunks) (origins_from unit number os)) (drop_all number unit.1.hunks all)
    ∙ map_from-none names (first + number) (drop number hunks)

pub length-unit_origins : (unit : FileUnit) → length (unit_origins unit) ≡ length unit.1.hunks
length-unit_origins unit =
    let origin : ℕ × ObjectHunk → Origin = λ hunk. record { unit = unit; number = hunk.0; hunk = hunk.1 } in
    length-map (enumerate_from 0 unit.1.hunks) origin ∙ length-enumerate_from 0 unit.1.hunks

-- ---- the units

-- a unit, with its place
pub unit-is : (units : List FileUnit) (index : ℕ) (place : UnitPlace) (unit : ObjectUnit) → index < length units
    → place ≡ get_or (map (λ u. u.0) units) index place → unit ≡ get_or (units_of units) index unit → get_or units index (place, unit) ≡ (place, unit)
unit-is units index place unit within place_is unit_is =
    let first : FileUnit → UnitPlace = λ u. u.0 in
    let second : FileUnit → ObjectUnit = λ u. u.1 in
    let next : FileUnit = get_or units index (place, unit) in
    let place_at : place ≡ next.0 = place_is ∙ get_or-map first units index (place, unit) place within in
    let unit_at : unit ≡ next.1 = unit_is ∙ get_or-map second units index (place, unit) unit within in
    ap₂ (λ (p : UnitPlace) (u : ObjectUnit). (p, u)) (sym place_at) (sym unit_at)

-- a place where there is none
abbrev pub no_place : UnitPlace
no_place = record { file = 0; number = 0 }

-- the unit at an index, with its place
pub unit-at : (units : List FileUnit) (places : List UnitPlace) (items : List ObjectUnit) (index : ℕ) (unit : ObjectUnit)
    → places ≡ map (λ u. u.0) units → items ≡ units_of units → index < length units → unit ≡ get_or items index unit
    → get_or units index (get_or places index no_place, unit) ≡ (get_or places index no_place, unit)
unit-at units places items index unit places_are items_are within unit_is =
    let first : FileUnit → UnitPlace = λ u. u.0 in
    let place = get_or places index no_place in
    let place_is : place ≡ get_or (map first units) index place =
    ap (λ (ps : List UnitPlace). get_or ps index no_place) places_are
    ∙ get_or-map first units index (no_place, unit) no_place within
    ∙ sym (get_or-map first units index (no_place, unit) place within) in
    unit-is units index place unit within place_is (unit_is ∙ ap (λ (us : List ObjectUnit). get_or us index unit) items_are)

-- it is the next one
pub next_unit : (units : List FileUnit) (places : List UnitPlace) (items : List ObjectUnit) (index : ℕ) (unit : ObjectUnit)
    → places ≡ map (λ u. u.0) units → items ≡ units_of units → index < length items → unit ≡ get_or items index unit
    → drop index units ≡ (get_or places index no_place, unit) ∷ drop (index + 1) units
next_unit units places items index unit places_are items_are within unit_is =
    let second : FileUnit → ObjectUnit = λ u. u.1 in
    let inside : index < length units = omega (arith, within, ap length items_are, length-map units second) in
    drop_more units index (get_or places index no_place, unit) inside
    ∙ ap (λ (u : FileUnit). u ∷ drop (index + 1) units) (unit-at units places items index unit places_are items_are inside unit_is)

-- the text of the units from this one on, the first hunk of which has this number
abbrev pub units_rest : (names : List (List ℕ)) (first index : ℕ) (file : List FileHunk) (units : List FileUnit) → List ℕ
units_rest names first index file units = map_from names first (drop first file) (origins (drop index units))

pub units_rest-more : (names : List (List ℕ)) (first index count : ℕ) (file hunks : List FileHunk) (units : List FileUnit) (unit : FileUnit)
    → drop index units ≡ unit ∷ drop (index + 1) units → hunks ≡ drop first file → count ≡ length unit.1.hunks → count ≤ length hunks
    → units_rest names first index file units ≡ map_from names first hunks (unit_origins unit) ++ units_rest names (first + count) (index + 1) file units
units_rest-more names first index count file hunks units unit next hunks_are count_is room =
    let rest = origins (drop (index + 1) units) in
    let counted : length (unit_origins unit) ≡ count = length-unit_origins unit ∙ sym count_is in
    ap₂ (λ (hs : List FileHunk) (us : List FileUnit). map_from names first hs (origins us)) (sym hunks_are) next
    ∙ map_from-split names first hunks (unit_origins unit) rest (omega (arith, counted, room))
    ∙ ap₂ (λ (n : ℕ) (hs : List FileHunk). map_from names first hunks (unit_origins unit) ++ map_from names (first + n) (drop n hs) rest) counted hunks_are
    ∙ ap (λ (hs : List FileHunk). map_from names first hunks (unit_origins unit) ++ map_from names (first + count) hs rest) (drop-drop count first file)

-- the hunks of the next unit, and those of the others
pub length-origins-more : (units : List FileUnit) (index : ℕ) (unit : FileUnit) → drop index units ≡ unit ∷ drop (index + 1) units
    → length (origins (drop index units)) ≡ length unit.1.hunks + length (origins (drop (index + 1) units))
length-origins-more units index unit next =
    omega (
      arith,
      ap (λ (us : List FileUnit). length (origins us)) next,
      length-append (unit_origins unit) (origins (drop (index + 1) units)),
      length-unit_origins unit,
    )

pub length-origins : (units : List FileUnit) → length (origins units) ≡ sum_by hunk_count (units_of units)
length-origins [] = refl
length-origins (unit ∷ units) =
    omega (
      arith,
      length-append (unit_origins unit) (origins units),
      length-unit_origins unit,
      length-origins units,
      sum_by-cons hunk_count unit.1 (units_of units),
    )

-- the load file that the units make has as many hunks
pub length-origins-carried : (units : List FileUnit) (strip : Bool) → length (origins units) ≡ length (carried (units_of units) strip)
length-origins-carried units strip =
    let all : List ObjectUnit = units_of units in
    let carries : RankedHunk → FileHunk = carried_ranked (table_of (hunks_of all)) strip in
    length-origins units ∙ sym (length-map (hunks_of all) carries ∙ length-hunks_of all)

-- the hunks of a slice that begins here
pub rest-is : (hunks file : List FileHunk) (first : ℕ) → hunks ≡ file → take (length hunks - first) (drop first hunks) ≡ drop first file
rest-is hunks file first is = take_all (length hunks - first) (drop first hunks) (omega (arith, length-drop first hunks)) ∙ ap (λ (hs : List FileHunk). drop first hs) is
