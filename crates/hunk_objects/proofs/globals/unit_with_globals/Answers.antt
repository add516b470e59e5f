-- One more hunk.
use Rattle.std.proofs.Common.{◌≡◌, ◌∙◌, ◌++◌, ◌<◌, List, ap, length, map, subst, sym, arith}
use Rattle.std.specs.List.{All}
use Rattle.std.proofs.lemmas.List.{length-map, nil_from_length}
use Rattle.std.proofs.lemmas.List.Elements.{All-push}
use Rattle.hunk_objects.specs.Globals.{hunk_with_globals}
use Rattle.hunk_objects.specs.ProgramUnit.{ObjectUnit}
use Rattle.hunk_objects.specs.UnitHunk.{IsUnitHunk, ObjectHunk}
use Rattle.hunk_objects.proofs.GlobalsLemmas.{made-all, made-more, made-room, made-unit}
use Rattle.hunk_objects.proofs.globals.unit_with_globals.Goals as goal

pub loop-hunk-init : goal.loop-hunk-init
loop-hunk-init g c =
    let f = hunk_with_globals c.args.strip in
    let hunks = ap (λ (u : ObjectUnit). u.hunks) c.unit.view_is in
    record {
      can_next = tt;
      is_finite = tt;
      room = omega (arith, c.in_ok-made.ensures.capacity, c.len.ensures, ap length hunks, c.unit.inside.hunks.ok.0);
      value = ap (λ (made : List ObjectHunk). made ++ map f c.into_iter-hunk-iterator.result.rest.items) c.in_ok-made.ensures.items ∙ ap (map f) (c.into_iter-hunk-iterator.ensures.into_iter_gives.0 ∙ hunks);
      valid = subst (All IsUnitHunk) (sym c.in_ok-made.ensures.items) (λ k d within. absurd (omega arith));
    }

pub push_reserved-requires : goal.push_reserved-requires
push_reserved-requires g c =
    let f = hunk_with_globals c.args.strip in
    let held = c.loop-hunk.invariant in
    let room : length c.loop-hunk.made.items < length (map f c.args.unit.hunks) = made-room f c.loop-hunk.made.items _ _ _ _ c.in-Some.ensures.steps.0 held.value in
    omega (arith, room, length-map c.args.unit.hunks f, held.room, c.loop-hunk.made.ok.0)

pub loop-hunk-preserved : goal.loop-hunk-preserved
loop-hunk-preserved g c =
    let f = hunk_with_globals c.args.strip in
    let held = c.loop-hunk.invariant in
    let made = c.in_ok-hunk_with_globals.ensures in
    record {
      can_next = tt;
      is_finite = tt;
      room = omega (arith, c.push_reserved.ensures.capacity, held.room);
      value = made-more f c.loop-hunk.made.items _ _ _ _ c.in-Some.ensures.steps.0 held.value _ _ made.value c.push_reserved.ensures.items;
      valid = subst (All IsUnitHunk) (sym c.push_reserved.ensures.items) (All-push IsUnitHunk c.loop-hunk.made.items c.in_ok-hunk_with_globals.field-0 held.valid made.valid);
    }

pub invariant_of-result : goal.invariant_of-result
invariant_of-result g c = c.loop-hunk.invariant.valid

pub returns : goal.returns
returns g c =
    let none = nil_from_length _ (omega (arith, c.loop-hunk.hunk-iterator.rest.ok.0, c.in-None.ensures.steps.0)) in
    let hunks = made-all (hunk_with_globals c.args.strip) c.loop-hunk.made.items _ _ none c.loop-hunk.invariant.value in
    made-unit c.args.strip c.unit.inside.name c.loop-hunk.made.items c.args.unit (ap (λ (u : ObjectUnit). u.name) c.unit.view_is) hunks
