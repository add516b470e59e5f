-- One more unit.
use Rattle.std.proofs.Common.{◌≡◌, ◌≤◌, List, ap, drop, get_or, length, map, refl, arith}
use Rattle.std.proofs.lemmas.Grind.{common_steps}
use Rattle.std.proofs.lemmas.List.{length-drop}
use Rattle.hunk_loadfile.specs.LoadHunk.{FileHunk}
use Rattle.hunk_origins.specs.Map.{map_from, map_text}
use Rattle.hunk_origins.specs.Origins.{unit_origins}
use Rattle.hunk_origins.proofs.MapLemmas.{length-origins-more, rest-is, no_place, next_unit, units_rest, units_rest-more}
use Rattle.hunk_base.proofs.TextLemmas.{Puts-as}
use Rattle.hunk_origins.proofs.BegunLemmas.{Begun-more, Begun-nothing}
use Rattle.hunk_origins.proofs.map.write_map.Goals as goal

pub loop-index-init : goal.loop-index-init
loop-index-init g c =
    let names = map g.N.FileName.bytes c.args.names.now in
    record {
      counted = omega (arith, c.requires);
      begun = Begun-nothing g.W.Sink.taken g.W.Sink.failed c.args.text.now (map_text names c.args.file.now c.args.files.now) (units_rest names 0 0 c.args.file.now c.args.files.now) refl;
    }

pub write_unit-requires-clause-room : goal.write_unit-requires-clause-room
write_unit-requires-clause-room g c =
    let units = c.args.files.now in
    let file = c.args.file.now in
    let loop = c.loop-index in
    let unit = c.unit-item.result in
    let left = next_unit units c.places-places.result.now c.units-unit-items.result.now loop.index unit c.places-places.ensures c.units-unit-items.ensures c.loop-index-test.true c.unit-item.is in
    omega (
      arith,
      ap length (rest-is c.hunks-hunks.result.now file loop.first c.hunks-hunks.ensures.value),
      length-drop loop.first file,
      length-origins-more units loop.index (get_or c.places-places.result.now loop.index no_place, unit) left,
      loop.invariant.counted,
    )

pub loop-index-preserved : goal.loop-index-preserved
loop-index-preserved g c =
    let names = map g.N.FileName.bytes c.args.names.now in
    let units = c.args.files.now in
    let file = c.args.file.now in
    let loop = c.loop-index in
    let unit = c.unit-item.result in
    let place = get_or c.places-places.result.now loop.index no_place in
    let count = length c.hunks.result.now in
    let count_is : count ≡ length unit.hunks = ap length c.hunks.ensures.value in
    let hunks = drop loop.first file in
    let left = next_unit units c.places-places.result.now c.units-unit-items.result.now loop.index unit c.places-places.ensures c.units-unit-items.ensures c.loop-index-test.true c.unit-item.is in
    let more = length-origins-more units loop.index (place, unit) left in
    let room : count ≤ length hunks = omega (arith, length-drop loop.first file, more, count_is, loop.invariant.counted) in
    let lines = Puts-as (ap (λ (hs : List FileHunk). map_from names loop.first hs (unit_origins (place, unit))) (rest-is c.hunks-hunks.result.now file loop.first c.hunks-hunks.ensures.value)) c.write_unit.ensures in
    record {
      counted = omega (arith, more, count_is, loop.invariant.counted);
      begun = Begun-more g.W.Sink.taken g.W.Sink.failed (units_rest-more names loop.first loop.index count file hunks units (place, unit) left refl count_is room) loop.invariant.begun lines;
    }

-- `grind` at once: `search`, which Rattle tries before it, is slow here
pub offset_bounds-hunks-first : goal.offset_bounds-hunks-first
offset_bounds-hunks-first g c = grind (arith, common_steps)

pub slice_bounds-write_unit-count : goal.slice_bounds-write_unit-count
slice_bounds-write_unit-count g c = grind (arith, common_steps)

pub slice_bounds-write_unit-start : goal.slice_bounds-write_unit-start
slice_bounds-write_unit-start g c = grind (arith, common_steps)

pub bounds-places-index : goal.bounds-places-index
bounds-places-index g c = grind (arith, common_steps)

pub overflow_add-first : goal.overflow_add-first
overflow_add-first g c =
    let units = c.args.files.now in
    let loop = c.loop-index in
    let unit = c.unit-item.result in
    let left = next_unit units c.places-places.result.now c.units-unit-items.result.now loop.index unit c.places-places.ensures c.units-unit-items.ensures c.loop-index-test.true c.unit-item.is in
    omega (
      arith,
      ap length c.hunks.ensures.value,
      ap length c.hunks-hunks.ensures.value,
      length-origins-more units loop.index (get_or c.places-places.result.now loop.index no_place, unit) left,
      loop.invariant.counted,
      c.hunks-hunks.type_inv.0,
    )

pub returns : goal.returns
returns g c = grind (arith, common_steps)
