-- One more hunk.
use Rattle.std.proofs.Common.{◌∙◌, ◌<◌, List, ap, get_or, length, map, sym, arith}
use Rattle.std.proofs.lemmas.Grind.{common_steps}
use Rattle.hunk_objects.specs.UnitHunk.{ObjectHunk}
use Rattle.hunk_origins.specs.Map.{map_from}
use Rattle.hunk_origins.specs.Origins.{unit_origins}
use Rattle.hunk_origins.proofs.MapLemmas.{unit_rest, unit_rest-all, unit_rest-more, unit_rest-none}
use Rattle.hunk_origins.proofs.BegunLemmas.{Begun-done, Begun-more, Begun-nothing}
use Rattle.hunk_origins.proofs.map.write_unit.Goals as goal

pub loop-number-init : goal.loop-number-init
loop-number-init g c =
    let names = map g.N.FileName.bytes c.args.names.now in
    Begun-nothing g.W.Sink.taken g.W.Sink.failed c.args.text.now (map_from names c.args.first c.args.hunks.now (unit_origins (c.args.place, c.args.unit.now)))
    (unit_rest names c.args.first 0 c.args.hunks.now (c.args.place, c.args.unit.now)) (sym (unit_rest-all names c.args.first c.args.hunks.now (c.args.place, c.args.unit.now)))

pub loop-number-preserved : goal.loop-number-preserved
loop-number-preserved g c =
    let names = map g.N.FileName.bytes c.args.names.now in
    let first = c.args.first in
    let number = c.loop-number.number in
    let hunks = c.args.hunks.now in
    let hunk = c.index-hunks-number.result in
    let own = c.hunk-item.result in
    let at = c.hunk-item.is ∙ ap (λ (hs : List ObjectHunk). get_or hs number own) c.hunks-hunk-items.ensures.value in
    let inside : number < length c.args.unit.now.hunks = omega (arith, c.loop-number-test.true, ap length c.hunks-hunk-items.ensures.value) in
    Begun-more g.W.Sink.taken g.W.Sink.failed
    (unit_rest-more names first number hunks (c.args.place, c.args.unit.now) hunk own (omega (arith, inside, c.requires.room)) inside c.index-hunks-number.is at)
    c.loop-number.invariant c.write_hunk.ensures

pub returns : goal.returns
returns g c =
    let names = map g.N.FileName.bytes c.args.names.now in
    let first = c.args.first in
    let number = c.loop-number.number in
    let hunks = c.args.hunks.now in
    Begun-done g.W.Sink.taken g.W.Sink.failed
    (unit_rest-none names first number hunks (c.args.place, c.args.unit.now) (omega (arith, c.loop-number-test.false, ap length c.hunks-hunk-items.ensures.value))) c.loop-number.invariant

-- `grind` at once: `search`, which Rattle tries before it, is slow here
pub offset_bounds-hunk-items-number : goal.offset_bounds-hunk-items-number
offset_bounds-hunk-items-number g c = grind (arith, common_steps)

pub bounds-hunk-items-number : goal.bounds-hunk-items-number
bounds-hunk-items-number g c = grind (arith, common_steps)

pub overflow_add-rank : goal.overflow_add-rank
overflow_add-rank g c = grind (arith, common_steps)

pub offset_bounds-hunks-number : goal.offset_bounds-hunks-number
offset_bounds-hunks-number g c = grind (arith, common_steps)

pub bounds-hunks-number : goal.bounds-hunks-number
bounds-hunks-number g c = grind (arith, common_steps)
