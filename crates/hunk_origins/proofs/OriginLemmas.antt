-- One hunk of a link, and where it is from.
use Rattle.std.proofs.Common.{◌≡◌, ◌∙◌, ℕ, ◌<◌, ◌≤◌, List, None, Some, length, map, get_or, ap, sym, arith}
use Rattle.std.specs.Prelude.{option_map, slice_get}
use Rattle.std.specs.Option.{option_and_then}
use Rattle.std.proofs.lemmas.List.{length-map}
use Rattle.std.proofs.lemmas.Option.{slice_get-get_or, slice_get_past}
use Rattle.hunk_objects.specs.ProgramUnit.{ObjectUnit}
use Rattle.hunk_objects.specs.UnitHunk.{ObjectHunk}
use Rattle.hunk_tool.specs.ObjectFiles.{FileUnit, units_of}
use Rattle.hunk_origins.specs.Origins.{Origin, hunk_at, origin_at}
use Rattle.hunk_tool.specs.declared.object_files.UnitPlace.{UnitPlace}
use Rattle.hunk_origins.proofs.MapLemmas.{unit-is}

module _ (units : List FileUnit) (index : ℕ) (place : UnitPlace) (unit : ObjectUnit) (within : index < length (units_of units))
    (place_is : place ≡ get_or (map (λ u. u.0) units) index place) (unit_is : unit ≡ get_or (units_of units) index unit) where
  unit_at : slice_get units index ≡ Some (place, unit)
  unit_at =
      let second : FileUnit → ObjectUnit = λ u. u.1 in
      let inside : index < length units = omega (arith, within, length-map units second) in
      slice_get-get_or units index (place, unit) inside ∙ ap (λ (u : FileUnit). Some u) (unit-is units index place unit inside place_is unit_is)

  -- its unit has the hunk
  pub origin_at-some : (number : ℕ) (hunk : ObjectHunk) → number < length unit.hunks → hunk ≡ get_or unit.hunks number hunk
      → origin_at units index number ≡ Some (record { unit = (place, unit); number = number; hunk = hunk })
  origin_at-some number hunk inside is =
      let origin : ObjectHunk → Origin = λ h. record { unit = (place, unit); number = number; hunk = h } in
      ap (option_and_then (hunk_at number)) unit_at ∙ ap (option_map origin) (slice_get-get_or unit.hunks number hunk inside) ∙ ap (λ h. Some (origin h)) (sym is)

  -- its unit does not have the hunk
  pub origin_at-none : (number : ℕ) → length unit.hunks ≤ number → origin_at units index number ≡ None
  origin_at-none number past =
      let origin : ObjectHunk → Origin = λ h. record { unit = (place, unit); number = number; hunk = h } in
      ap (option_and_then (hunk_at number)) unit_at ∙ ap (option_map origin) (slice_get_past unit.hunks number past)

-- there is no such unit
pub origin_at-past : (units : List FileUnit) (index number : ℕ) → length (units_of units) ≤ index → origin_at units index number ≡ None
origin_at-past units index number past =
    let second : FileUnit → ObjectUnit = λ u. u.1 in
    ap (option_and_then (hunk_at number)) (slice_get_past units index (omega (arith, past, length-map units second)))
