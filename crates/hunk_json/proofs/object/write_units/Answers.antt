-- One more unit.
use Rattle.std.proofs.Common.{◌≡◌, ◌∙◌, ◌+◌, ◌∷◌, List, ap, drop, length, sym}
use Rattle.std.proofs.lemmas.List.{drop_all, drop_more}
use Rattle.hunk_json.specs.FileJson.{unit_json, units_at}
use Rattle.hunk_json.proofs.DocumentLemmas.{Listing-all, Listing-more, Listing-none, told-utf8}
use Rattle.hunk_json.proofs.FileJsonLemmas.{unit-told}
use Rattle.hunk_json.proofs.object.write_units.Goals as goal

pub loop-unit-init : goal.loop-unit-init
loop-unit-init g c = Listing-none g.W.Sink.taken g.W.Sink.failed c.args.form (unit_json c.args.form) (units_at c.args.offsets.now c.args.units.now) c.put.ensures

pub loop-unit-preserved : goal.loop-unit-preserved
loop-unit-preserved g c =
    let form = c.args.form in
    let units = c.args.units.now in
    let index = c.loop-unit.unit-index in
    let unit = c.unit-item.result in
    let left = c.loop-unit.left.now in
    let rest = drop (index + 1) units in
    let behind = drop_more units index unit c.loop-unit-test.true ∙ ap (λ first. first ∷ rest) (sym c.unit-item.is) in
    let next = ap (units_at left) behind ∙ ap (λ offsets. (left, unit) ∷ units_at offsets rest) (sym (c.offsets_behind-left.ensures ∙ ap (λ hunks. drop (length hunks) left) c.hunks.ensures.value)) in
    Listing-more g.W.Sink.taken g.W.Sink.failed form (unit_json form) (left, unit) c.loop-unit.invariant next (told-utf8 (unit_json form (left, unit)) (unit-told form (left, unit))) c.write_comma.ensures c.write_unit.ensures

pub returns : goal.returns
returns g c =
    let done = ap (units_at c.loop-unit.left.now) (drop_all c.loop-unit.unit-index c.args.units.now c.loop-unit-test.false) in
    Listing-all g.W.Sink.taken g.W.Sink.failed c.args.form (unit_json c.args.form) c.loop-unit.invariant done c.put-2.ensures
