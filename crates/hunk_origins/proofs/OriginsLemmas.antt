-- The hunks of a load file have the kinds, the memories and the sizes of the hunks that they are from.
use Rattle.std.proofs.Common.{◌≡◌, ◌∙◌, ℕ, suc, ◌+◌, List, [], ◌∷◌, ◌++◌, Bool, length, map, refl, sym, ap, ap₂}
use Rattle.std.proofs.lemmas.List.{map-append}
use Rattle.hunk_objects.specs.UnitHunk.{ObjectHunk}
use Rattle.hunk_objects.specs.ProgramUnit.{ObjectUnit}
use Rattle.hunk_link.specs.Carried.{carried, carried_ranked}
use Rattle.hunk_link.specs.Ranks.{RankedHunk, hunks_from, hunks_of, unit_hunks}
use Rattle.hunk_link.specs.SymbolTable.{Table, table_of}
use Rattle.hunk_link.proofs.RanksLemmas.{hunks_behind}
use Rattle.hunk_origins.specs.Laws.{Form, HunksAreOfOrigins, linked_form, origin_form}
use Rattle.hunk_tool.specs.LinkedUnits.{linked_files, strips}
use Rattle.hunk_tool.specs.ObjectFiles.{FileUnit, units_of}
use Rattle.hunk_origins.specs.Origins.{origins, origins_from, unit_origins}
use Rattle.hunk_tool.proofs.LinkedUnitsLemmas.{units_of-linked}
use Rattle.hunk_origins.proofs.LinkedOriginsLemmas.{origins-linked}

abbrev form_of : ObjectHunk → Form
form_of hunk = (hunk.kind, hunk.memory, hunk.size)

abbrev ranked_form : RankedHunk → Form
ranked_form ranked = form_of ranked.hunk

carried-forms : (table : Table) (strip : Bool) (hunks : List RankedHunk) → map linked_form (map (carried_ranked table strip) hunks) ≡ map ranked_form hunks
carried-forms table strip [] = refl
carried-forms table strip (ranked ∷ hunks) = ap (λ (forms : List Form). ranked_form ranked ∷ forms) (carried-forms table strip hunks)

-- a unit, by rank and by origin
unit-forms : (unit first count number : ℕ) (from : FileUnit) (hunks : List ObjectHunk) → map ranked_form (hunks_behind unit first count number hunks) ≡ map origin_form (origins_from from number hunks)
unit-forms unit first count number from [] = refl
unit-forms unit first count number from (hunk ∷ hunks) = ap (λ (forms : List Form). form_of hunk ∷ forms) (unit-forms unit first count (number + 1) from hunks)

all-forms : (unit first : ℕ) (units : List FileUnit) → map ranked_form (hunks_from unit first (units_of units)) ≡ map origin_form (origins units)
all-forms unit first [] = refl
all-forms unit first (u ∷ units) =
    let others = hunks_from (suc unit) (first + length u.1.hunks) (units_of units) in
    map-append ranked_form (unit_hunks unit first u.1.hunks) others
    ∙ ap₂ (λ (own rest : List Form). own ++ rest) (unit-forms unit first (length u.1.hunks) 0 u u.1.hunks) (all-forms (suc unit) (first + length u.1.hunks) units)
    ∙ sym (map-append origin_form (unit_origins u) (origins units))

pub hunks_are_of_origins : HunksAreOfOrigins
hunks_are_of_origins units globals strip =
    let linked = linked_files globals strip units in
    ap (λ (us : List ObjectUnit). map linked_form (carried us (strips globals strip))) (sym (units_of-linked globals strip units))
    ∙ carried-forms (table_of (hunks_of (units_of linked))) (strips globals strip) (hunks_of (units_of linked)) ∙ all-forms 0 0 linked
    ∙ origins-linked origin_form (λ stripped origin. refl) globals strip units
