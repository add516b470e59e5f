-- Units with the names that they define as symbols have hunks from the same places, and the same lines of a map.
use Rattle.std.proofs.Common.{◌≡◌, ◌∙◌, ℕ, ◌+◌, Bool, true, false, List, [], ◌∷◌, ◌++◌, map, refl, sym, ap, ap₂}
use Rattle.std.proofs.lemmas.List.{map-append}
use Rattle.hunk_objects.specs.Globals.{hunk_with_globals}
use Rattle.hunk_objects.specs.UnitHunk.{ObjectHunk}
use Rattle.hunk_loadfile.specs.LoadHunk.{FileHunk}
use Rattle.hunk_tool.specs.LinkedUnits.{linked_files, placed_with_globals}
use Rattle.hunk_tool.specs.ObjectFiles.{FileUnit}
use Rattle.hunk_origins.specs.Map.{map_from, map_lines, map_text}
use Rattle.hunk_origins.specs.Origins.{Origin, origins, origins_from, unit_origins}

-- ---- where their hunks are from

abbrev origin_with_globals : (strip : Bool) → Origin → Origin
origin_with_globals strip origin =
    record { unit = placed_with_globals strip origin.unit; number = origin.number; hunk = hunk_with_globals strip origin.hunk }

unit_origins-globals : (strip : Bool) (unit : FileUnit) (number : ℕ) (hunks : List ObjectHunk)
    → origins_from (placed_with_globals strip unit) number (map (hunk_with_globals strip) hunks) ≡ map (origin_with_globals strip) (origins_from unit number hunks)
unit_origins-globals strip unit number [] = refl
unit_origins-globals strip unit number (hunk ∷ hunks) =
    let its : Origin = record { unit = placed_with_globals strip unit; number = number; hunk = hunk_with_globals strip hunk } in
    ap (λ (rest : List Origin). its ∷ rest) (unit_origins-globals strip unit (number + 1) hunks)

origins-globals : (strip : Bool) (units : List FileUnit) → origins (map (placed_with_globals strip) units) ≡ map (origin_with_globals strip) (origins units)
origins-globals strip [] = refl
origins-globals strip (unit ∷ units) =
    ap₂ (λ (own rest : List Origin). own ++ rest) (unit_origins-globals strip unit 0 unit.1.hunks) (origins-globals strip units)
    ∙ sym (map-append (origin_with_globals strip) (unit_origins unit) (origins units))

-- what does not depend on symbols is the same of all origins
pub origins-linked : {T : Type 0} (f : Origin → T) → ((strip : Bool) (origin : Origin) → f (origin_with_globals strip origin) ≡ f origin) → (globals strip : Bool) (units : List FileUnit)
    → map f (origins (linked_files globals strip units)) ≡ map f (origins units)
origins-linked f same false strip units = refl
origins-linked {T = T} f same true strip units = ap (λ (all : List Origin). map f all) (origins-globals strip units) ∙ go (origins units)
  where
    go : (all : List Origin) → map f (map (origin_with_globals strip) all) ≡ map f all
    go [] = refl
    go (origin ∷ all) = ap₂ (λ (x : T) (xs : List T). x ∷ xs) (same strip origin) (go all)

-- ---- the map

map_from-globals : (strip : Bool) (names : List (List ℕ)) (number : ℕ) (file : List FileHunk) (all : List Origin)
    → map_from names number file (map (origin_with_globals strip) all) ≡ map_from names number file all
map_from-globals strip names number [] all = refl
map_from-globals strip names number (hunk ∷ file) [] = refl
map_from-globals strip names number (hunk ∷ file) (origin ∷ all) =
    ap (λ (text : List ℕ). map_lines names (number, (hunk, origin)) ++ text) (map_from-globals strip names (number + 1) file all)

pub map_text-linked : (globals strip : Bool) (names : List (List ℕ)) (file : List FileHunk) (units : List FileUnit) → map_text names file (linked_files globals strip units) ≡ map_text names file units
map_text-linked false strip names file units = refl
map_text-linked true strip names file units = ap (map_from names 0 file) (origins-globals strip units) ∙ map_from-globals strip names 0 file (origins units)
