use Rattle.std.proofs.Common.{◌+◌, ◌-◌, length, sym, ap, subst, ◌∙◌, arith}
use Rattle.std.proofs.lemmas.List.{nil_from_length}
use Rattle.hunk_link.specs.Ranks.{hunks_of}
use Rattle.hunk_link.proofs.CarriedHunksLemmas.{BetweenUnits, hunk-inside, hunk-known, hunk-more, hunk-room, unit-begun, unit-ended, units-begun, units-made}
use Rattle.hunk_link.proofs.carried.moved_hunks.Goals as goal

pub loop-unit-init : goal.loop-unit-init
loop-unit-init g c =
    let units = c.args.units.items in
    let made = c.in_ok-carried.carried.items in
    record {
      can_next = tt;
      is_finite = tt;
      room = omega (arith, c.in_ok-carried.ensures.capacity);
      making = subst (λ left. BetweenUnits c.args.addends.now c.args.strip (hunks_of units) left 0 made) (sym c.into_iter-unit-iterator.ensures.into_iter_gives.0)
          (units-begun c.args.addends.now c.args.strip units made c.in_ok-carried.ensures.items c.requires.counted c.requires.few c.requires.own);
    }

pub overflow_cast-first : goal.overflow_cast-first
overflow_cast-first g c =
    omega (arith, c.loop-unit.invariant.making.making.room, c.requires.few.few, c.loop-unit.carried.ok.0)

pub loop-hunk-init : goal.loop-hunk-init
loop-hunk-init g c = record {
  can_next = tt;
  is_finite = tt;
  room = c.loop-unit.invariant.room;
  making = unit-begun _ _ _ _ _ _ _ _ _ _ c.in-Some.ensures.steps.0 (c.into_iter-hunk-iterator.ensures.into_iter_gives.0 ∙ c.into_hunks-hunk-items.ensures.value) (omega (arith, c.len-first.ensures, c.loop-unit.carried.ok.0)) c.loop-unit.invariant.making;
}

pub overflow_add-own : goal.overflow_add-own
overflow_add-own g c =
    let inside = hunk-inside _ _ _ _ _ _ _ _ c.loop-hunk.invariant.making _ _ c.in-Some-hunk.ensures.steps.0 _ (ap length c.references-count.ensures.value) in
    omega (arith, inside, c.well_formed.1.1.1.0.0)

pub offset_bounds-addends-next : goal.offset_bounds-addends-next
offset_bounds-addends-next g c =
    let inside = hunk-inside _ _ _ _ _ _ _ _ c.loop-hunk.invariant.making _ _ c.in-Some-hunk.ensures.steps.0 _ (ap length c.references-count.ensures.value) in
    omega (arith, inside, c.well_formed.1.1.1.0.1)

pub slice_bounds-own-end : goal.slice_bounds-own-end
slice_bounds-own-end g c =
    hunk-inside _ _ _ _ _ _ _ _ c.loop-hunk.invariant.making _ _ c.in-Some-hunk.ensures.steps.0 _ (ap length c.references-count.ensures.value)

pub moved_hunk-requires : goal.moved_hunk-requires
moved_hunk-requires g c =
    let count = ap length c.references-count.ensures.value in
    hunk-known _ _ _ _ _ _ _ _ c.loop-hunk.invariant.making _ _ c.in-Some-hunk.ensures.steps.0 (c.loop-hunk.next + length c.references-count.result.now - c.loop-hunk.next) (omega (arith, count)) c.references-count.ensures.valid

pub push_reserved-requires : goal.push_reserved-requires
push_reserved-requires g c =
    let room = hunk-room _ _ _ _ _ _ _ _ c.loop-hunk.invariant.making _ _ c.in-Some-hunk.ensures.steps.0 in
    omega (arith, c.loop-hunk.carried.ok.0)

pub loop-hunk-preserved : goal.loop-hunk-preserved
loop-hunk-preserved g c =
    let count = ap length c.references-count.ensures.value in
    record {
      can_next = tt;
      is_finite = tt;
      room = omega (arith, c.push_reserved.ensures.capacity);
      making = hunk-more _ _ _ _ _ _ _ _ c.loop-hunk.invariant.making _ _ c.in-Some-hunk.ensures.steps.0 (c.loop-hunk.next + length c.references-count.result.now - c.loop-hunk.next) (omega (arith, count))
          c.in_ok-moved_hunk.field-0 c.in_ok-moved_hunk.ensures c.push_reserved.new.self.items c.push_reserved.ensures.items _ (omega arith);
    }

pub loop-unit-preserved : goal.loop-unit-preserved
loop-unit-preserved g c = record {
  can_next = tt;
  is_finite = tt;
  room = c.loop-hunk.invariant.room;
  making = unit-ended _ _ _ _ _ _ _ _ c.loop-hunk.invariant.making (nil_from_length _ (omega (arith, c.loop-hunk.hunk-iterator.rest.ok.0, c.in-None-hunk.ensures.steps.0)));
}

pub returns : goal.returns
returns g c = units-made _ _ _ _ _ _ (nil_from_length _ (omega (arith, c.loop-unit.unit-iterator.rest.ok.0, c.in-None.ensures.steps.0))) c.loop-unit.invariant.making
