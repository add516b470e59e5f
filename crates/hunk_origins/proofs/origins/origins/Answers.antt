-- One more hunk.
use Rattle.std.proofs.Common.{◌≡◌, ◌∙◌, ◌+◌, ◌≤◌, ◌++◌, ◌∷◌, [], List, ap, append-nil, append_assoc, drop, get_or, length, sym, arith}
use Rattle.std.proofs.lemmas.Grind.{common_steps}
use Rattle.std.proofs.lemmas.List.{drop_all, drop_more, length-map}
use Rattle.hunk_objects.specs.ProgramUnit.{ObjectUnit}
use Rattle.hunk_objects.specs.UnitHunk.{ObjectHunk}
use Rattle.hunk_tool.specs.ObjectFiles.{FileUnit}
use Rattle.hunk_origins.specs.Origins.{Origin, origins, origins_from}
use Rattle.hunk_origins.proofs.MapLemmas.{next_unit, no_place}
use Rattle.hunk_origins.proofs.origins.origins.Goals as goal

pub loop-index-init : goal.loop-index-init
loop-index-init g c = ap (λ (all : List Origin). all ++ origins c.args.files.now) c.new-all.ensures.items

pub loop-number-init : goal.loop-number-init
loop-number-init g c =
    let files = c.args.files.now in
    let index = c.loop-index.index in
    let unit = c.unit-item.result in
    let place = get_or c.places-places.result.now index no_place in
    let all = c.loop-index.all.items in
    let left = next_unit files c.places-places.result.now c.units-unit-items.result.now index unit c.places-places.ensures c.units-unit-items.ensures c.loop-index-test.true c.unit-item.is in
    ap (λ (hs : List ObjectHunk). all ++ (origins_from (place, unit) 0 hs ++ origins (drop (index + 1) files))) c.hunks-hunk-items.ensures.value
    ∙ sym (ap (λ (us : List FileUnit). all ++ origins us) left) ∙ c.loop-index.invariant

pub loop-number-preserved : goal.loop-number-preserved
loop-number-preserved g c =
    let files = c.args.files.now in
    let index = c.loop-index.index in
    let unit = c.unit-item.result in
    let place = get_or c.places-places.result.now index no_place in
    let from : FileUnit = (place, unit) in
    let number = c.loop-number.number in
    let all = c.loop-number.all.items in
    let hunks = c.hunks-hunk-items.result.now in
    let own = c.hunk-item.result in
    let next : Origin = record { unit = from; number = number; hunk = own } in
    let rest = origins (drop (index + 1) files) in
    let left : drop number hunks ≡ own ∷ drop (number + 1) hunks = drop_more hunks number own c.loop-number-test.true ∙ ap (λ (h : ObjectHunk). h ∷ drop (number + 1) hunks) (sym c.hunk-item.is) in
    ap (λ (made : List Origin). made ++ (origins_from from (number + 1) (drop (number + 1) hunks) ++ rest)) c.in_ok-push.ensures.items
    ∙ append_assoc all (next ∷ []) (origins_from from (number + 1) (drop (number + 1) hunks) ++ rest)
    ∙ sym (ap (λ (hs : List ObjectHunk). all ++ (origins_from from number hs ++ rest)) left) ∙ c.loop-number.invariant

pub loop-index-preserved : goal.loop-index-preserved
loop-index-preserved g c =
    let files = c.args.files.now in
    let index = c.loop-index.index in
    let from : FileUnit = (get_or c.places-places.result.now index no_place, c.unit-item.result) in
    let number = c.loop-number.number in
    let all = c.loop-number.all.items in
    sym (ap (λ (hs : List ObjectHunk). all ++ (origins_from from number hs ++ origins (drop (index + 1) files))) (drop_all number c.hunks-hunk-items.result.now c.loop-number-test.false)) ∙ c.loop-number.invariant

pub returns : goal.returns
returns g c =
    let files = c.args.files.now in
    let unit : FileUnit → ObjectUnit = λ u. u.1 in
    let all = c.loop-index.all.items in
    let ended : length files ≤ c.loop-index.index = omega (arith, c.loop-index-test.false, ap length c.units-unit-items.ensures, length-map files unit) in
    sym (append-nil all) ∙ sym (ap (λ (us : List FileUnit). all ++ origins us) (drop_all c.loop-index.index files ended)) ∙ c.loop-index.invariant

-- `grind` at once: `search`, which Rattle tries before it, is slow here
pub bounds-places-index : goal.bounds-places-index
bounds-places-index g c = grind (arith, common_steps)

pub bounds-hunk-items-number : goal.bounds-hunk-items-number
bounds-hunk-items-number g c = grind (arith, common_steps)
