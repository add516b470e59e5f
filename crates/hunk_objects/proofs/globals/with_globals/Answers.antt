-- One more unit.
use Rattle.std.proofs.Common.{◌<◌, length, map, arith}
use Rattle.std.proofs.lemmas.List.{length-map}
use Rattle.hunk_objects.specs.Globals.{unit_with_globals}
use Rattle.hunk_objects.proofs.GlobalsLemmas.{made-room}
use Rattle.hunk_objects.proofs.globals.with_globals.Goals as goal

pub push_reserved-requires : goal.push_reserved-requires
push_reserved-requires g c =
    let f = unit_with_globals c.args.strip in
    let held = c.loop-unit.invariant in
    let room : length c.loop-unit.made.items < length (map f c.args.units.items) = made-room f c.loop-unit.made.items _ _ _ _ c.in-Some.ensures.steps.0 held.value in
    omega (arith, room, length-map c.args.units.items f, held.room, c.loop-unit.made.ok.0)
