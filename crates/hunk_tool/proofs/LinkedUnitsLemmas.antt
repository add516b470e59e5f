-- Units with the names that they define as symbols have the same places, sizes and memory.
use Rattle.std.proofs.Common.{◌≡◌, ◌∙◌, ℕ, suc, ◌+◌, Bool, true, false, List, [], ◌∷◌, ◌++◌, length, map, refl, sym, ap, ap₂}
use Rattle.std.specs.List.{All, enumerate_from, flat_map, zip}
use Rattle.std.proofs.lemmas.List.{length-map, map-append}
use Rattle.std.proofs.lemmas.List.Elements.{All-cons, All-head, All-nil, All-tail}
use Rattle.hunk_objects.specs.Globals.{hunk_with_globals, unit_with_globals}
use Rattle.hunk_objects.specs.ProgramUnit.{ObjectUnit}
use Rattle.hunk_objects.specs.UnitHunk.{IsUnitHunk, ObjectHunk}
use Rattle.hunk_objects.specs.declared.unit_hunk.Definition.{Definition}
use Rattle.hunk_objects.proofs.GlobalsLemmas.{IsUnitHunk-globals}
use Rattle.hunk_link.specs.Ranks.{IsUnit, RankedHunk, hunks_from, hunks_of, items_of, unit_hunks}
use Rattle.hunk_link.specs.SymbolTable.{Table, definitions_in, definitions_of, entry, table_of}
use Rattle.hunk_link.specs.declared.symbol_table.Defined.{Defined}
use Rattle.hunk_link.proofs.RanksLemmas.{hunks_behind}
use Rattle.hunk_tool.specs.Direct.{direct, direct_bytes}
use Rattle.hunk_tool.specs.Image.{ranked_sizes}
use Rattle.hunk_tool.specs.LinkedUnits.{linked_files, linked_units, placed_with_globals}
use Rattle.hunk_tool.specs.ObjectFiles.{FileUnit, units_of}
use Rattle.hunk_tool.specs.declared.object_files.UnitPlace.{UnitPlace}

-- ---- the units with their places

pub length-linked : (globals strip : Bool) (units : List ObjectUnit) → length (linked_units globals strip units) ≡ length units
length-linked false strip units = refl
length-linked true strip units = length-map units (unit_with_globals strip)

zip-globals : (strip : Bool) (places : List UnitPlace) (units : List ObjectUnit) → zip places (map (unit_with_globals strip) units) ≡ map (placed_with_globals strip) (zip places units)
zip-globals strip [] units = refl
zip-globals strip (place ∷ places) [] = refl
zip-globals strip (place ∷ places) (unit ∷ units) = ap (λ (rest : List FileUnit). (place, unit_with_globals strip unit) ∷ rest) (zip-globals strip places units)

pub zip-linked : (globals strip : Bool) (places : List UnitPlace) (units : List ObjectUnit) → zip places (linked_units globals strip units) ≡ linked_files globals strip (zip places units)
zip-linked false strip places units = refl
zip-linked true strip places units = zip-globals strip places units

units_of-globals : (strip : Bool) (units : List FileUnit) → units_of (map (placed_with_globals strip) units) ≡ map (unit_with_globals strip) (units_of units)
units_of-globals strip [] = refl
units_of-globals strip (unit ∷ units) = ap (λ (rest : List ObjectUnit). unit_with_globals strip unit.1 ∷ rest) (units_of-globals strip units)

pub units_of-linked : (globals strip : Bool) (units : List FileUnit) → units_of (linked_files globals strip units) ≡ linked_units globals strip (units_of units)
units_of-linked false strip units = refl
units_of-linked true strip units = units_of-globals strip units

-- ---- what their types say

IsUnit-hunks : (strip : Bool) (hunks : List ObjectHunk) → All IsUnitHunk hunks → All IsUnitHunk (map (hunk_with_globals strip) hunks)
IsUnit-hunks strip [] typed = All-nil IsUnitHunk
IsUnit-hunks strip (hunk ∷ hunks) typed =
    All-cons IsUnitHunk (hunk_with_globals strip hunk) (map (hunk_with_globals strip) hunks) (IsUnitHunk-globals strip hunk (All-head IsUnitHunk hunk hunks typed))
    (IsUnit-hunks strip hunks (All-tail IsUnitHunk hunk hunks typed))

IsUnit-globals : (strip : Bool) (units : List ObjectUnit) → All IsUnit units → All IsUnit (map (unit_with_globals strip) units)
IsUnit-globals strip [] typed = All-nil IsUnit
IsUnit-globals strip (unit ∷ units) typed =
    All-cons IsUnit (unit_with_globals strip unit) (map (unit_with_globals strip) units) (IsUnit-hunks strip unit.hunks (All-head IsUnit unit units typed))
    (IsUnit-globals strip units (All-tail IsUnit unit units typed))

pub IsUnit-linked : (globals strip : Bool) (units : List ObjectUnit) → All IsUnit units → All IsUnit (linked_units globals strip units)
IsUnit-linked false strip units typed = typed
IsUnit-linked true strip units typed = IsUnit-globals strip units typed

-- ---- the hunks in the order of their ranks

abbrev ranked_with_globals : (strip : Bool) → RankedHunk → RankedHunk
ranked_with_globals strip ranked = record ranked { hunk = hunk_with_globals strip ranked.hunk }

behind-globals : (strip : Bool) (unit first count number : ℕ) (hunks : List ObjectHunk)
    → hunks_behind unit first count number (map (hunk_with_globals strip) hunks) ≡ map (ranked_with_globals strip) (hunks_behind unit first count number hunks)
behind-globals strip unit first count number [] = refl
behind-globals strip unit first count number (hunk ∷ hunks) =
    let its : RankedHunk = record { unit = unit; number = number; first = first; count = count; hunk = hunk_with_globals strip hunk } in
    ap (λ (rest : List RankedHunk). its ∷ rest) (behind-globals strip unit first count (number + 1) hunks)

from-globals : (strip : Bool) (unit first : ℕ) (units : List ObjectUnit) → hunks_from unit first (map (unit_with_globals strip) units) ≡ map (ranked_with_globals strip) (hunks_from unit first units)
from-globals strip unit first [] = refl
from-globals strip unit first (u ∷ units) =
    let made : List ObjectHunk = map (hunk_with_globals strip) u.hunks in
    let same : length made ≡ length u.hunks = length-map u.hunks (hunk_with_globals strip) in
    ap₂ (λ (count behind : ℕ). hunks_behind unit first count 0 made ++ hunks_from (suc unit) (first + behind) (map (unit_with_globals strip) units)) same same
    ∙ ap₂ (λ (own rest : List RankedHunk). own ++ rest) (behind-globals strip unit first (length u.hunks) 0 u.hunks) (from-globals strip (suc unit) (first + length u.hunks) units)
    ∙ sym (map-append (ranked_with_globals strip) (unit_hunks unit first u.hunks) (hunks_from (suc unit) (first + length u.hunks) units))

-- ---- their sizes and names

sizes-globals : (strip : Bool) (hunks : List RankedHunk) → map (λ (ranked : RankedHunk). ranked.hunk.size) (map (ranked_with_globals strip) hunks) ≡ map (λ (ranked : RankedHunk). ranked.hunk.size) hunks
sizes-globals strip [] = refl
sizes-globals strip (ranked ∷ hunks) = ap (λ (sizes : List ℕ). ranked.hunk.size ∷ sizes) (sizes-globals strip hunks)

pub sizes-linked_units : (globals strip : Bool) (units : List ObjectUnit) → ranked_sizes (linked_units globals strip units) ≡ ranked_sizes units
sizes-linked_units false strip units = refl
sizes-linked_units true strip units = ap (λ (hunks : List RankedHunk). map (λ (ranked : RankedHunk). ranked.hunk.size) hunks) (from-globals strip 0 0 units) ∙ sizes-globals strip (hunks_of units)

entries-globals : (strip : Bool) (ranked : RankedHunk) (definitions : List (List ℕ × Definition))
    → map entry (map (λ (item : List ℕ × Definition). (ranked_with_globals strip ranked, item)) definitions) ≡ map entry (map (λ (item : List ℕ × Definition). (ranked, item)) definitions)
entries-globals strip ranked [] = refl
entries-globals strip ranked (definition ∷ definitions) =
    ap (λ (rest : Table). entry (ranked, definition) ∷ rest) (entries-globals strip ranked definitions)

table-globals : (strip : Bool) (hunks : List RankedHunk) → table_of (map (ranked_with_globals strip) hunks) ≡ table_of hunks
table-globals strip [] = refl
table-globals strip (ranked ∷ hunks) =
    map-append entry (items_of definitions_in (ranked_with_globals strip ranked)) (definitions_of (map (ranked_with_globals strip) hunks))
    ∙ ap₂ (λ (own rest : Table). own ++ rest) (entries-globals strip ranked ranked.hunk.definitions) (table-globals strip hunks)
    ∙ sym (map-append entry (items_of definitions_in ranked) (definitions_of hunks))

-- ---- their memory

-- the base and the bytes of a hunk
abbrev its_memory : (bases : List ℕ) → Table → ℕ × RankedHunk → ℕ × List ℕ
its_memory bases table placed = (placed.0, direct_bytes bases table placed.1)

placed-globals : (strip : Bool) (bases own : List ℕ) (table : Table) (hunks : List RankedHunk)
    → map (its_memory bases table) (zip own (map (ranked_with_globals strip) hunks)) ≡ map (its_memory bases table) (zip own hunks)
placed-globals strip bases [] table hunks = refl
placed-globals strip bases (base ∷ own) table [] = refl
placed-globals strip bases (base ∷ own) table (ranked ∷ hunks) =
    ap (λ (rest : List (ℕ × List ℕ)). its_memory bases table (base, ranked) ∷ rest) (placed-globals strip bases own table hunks)

direct-globals : (strip : Bool) (units : List ObjectUnit) (bases : List ℕ) → direct (map (unit_with_globals strip) units) bases ≡ direct units bases
direct-globals strip units bases =
    ap (λ (hunks : List RankedHunk). map (its_memory bases (table_of hunks)) (zip bases hunks)) (from-globals strip 0 0 units)
    ∙ ap (λ (table : Table). map (its_memory bases table) (zip bases (map (ranked_with_globals strip) (hunks_of units)))) (table-globals strip (hunks_of units))
    ∙ placed-globals strip bases bases (table_of (hunks_of units)) (hunks_of units)

pub direct-linked : (globals strip : Bool) (units : List ObjectUnit) (bases : List ℕ) → direct (linked_units globals strip units) bases ≡ direct units bases
direct-linked false strip units bases = refl
direct-linked true strip units bases = direct-globals strip units bases
