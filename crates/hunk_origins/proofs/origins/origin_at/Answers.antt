-- The place and the unit of the index, and the hunk of the number.
use Rattle.std.proofs.Common.{◌∙◌, List, ◌<◌, ap, get_or, length, sym, arith}
use Rattle.hunk_objects.specs.ProgramUnit.{ObjectUnit}
use Rattle.hunk_objects.specs.UnitHunk.{ObjectHunk}
use Rattle.hunk_tool.specs.ObjectFiles.{units_of}
use Rattle.hunk_tool.specs.declared.object_files.UnitPlace.{UnitPlace}
use Rattle.hunk_origins.proofs.OriginLemmas.{origin_at-none, origin_at-past, origin_at-some}
use Rattle.hunk_origins.proofs.origins.origin_at.Goals as goal

pub returns-in_err-own : goal.returns-in_err-own
returns-in_err-own g c =
    let units = c.args.files.now in
    let index = c.args.unit in
    let place = c.in_ok-place.field-0.now in
    let unit = c.in_ok-unit.unit.now in
    let within : index < length (units_of units) = omega (arith, c.in_ok-unit.ensures.lookup.3.0, ap length c.units.ensures) in
    c.from_residual-in_err-own.ensures
    ∙ sym (origin_at-none units index place unit within
    (c.in_ok-place.ensures.lookup.3.1 place ∙ ap (λ (ps : List UnitPlace). get_or ps index place) c.places.ensures)
    (c.in_ok-unit.ensures.lookup.3.1 unit ∙ ap (λ (us : List ObjectUnit). get_or us index unit) c.units.ensures)
    c.args.hunk (omega (arith, c.in_err-own.ensures.lookup.3, ap length c.hunks.ensures.value)))

pub returns : goal.returns
returns g c =
    let units = c.args.files.now in
    let index = c.args.unit in
    let place = c.in_ok-place.field-0.now in
    let unit = c.in_ok-unit.unit.now in
    let own = c.in_ok-own.own.now in
    let within : index < length (units_of units) = omega (arith, c.in_ok-unit.ensures.lookup.3.0, ap length c.units.ensures) in
    sym (origin_at-some units index place unit within
    (c.in_ok-place.ensures.lookup.3.1 place ∙ ap (λ (ps : List UnitPlace). get_or ps index place) c.places.ensures)
    (c.in_ok-unit.ensures.lookup.3.1 unit ∙ ap (λ (us : List ObjectUnit). get_or us index unit) c.units.ensures)
    c.args.hunk own (omega (arith, c.in_ok-own.ensures.lookup.3.0, ap length c.hunks.ensures.value))
    (c.in_ok-own.ensures.lookup.3.1 own ∙ ap (λ (hs : List ObjectHunk). get_or hs c.args.hunk own) c.hunks.ensures.value))

pub returns-in_err-unit : goal.returns-in_err-unit
returns-in_err-unit g c =
    c.from_residual-in_err-unit.ensures ∙ sym (origin_at-past c.args.files.now c.args.unit c.args.hunk (omega (arith, c.in_err-unit.ensures.lookup.3, ap length c.units.ensures)))
