use Rattle.std.proofs.Common.{◌∙◌, ap, arith, length, subst, sym}
use Rattle.std.proofs.lemmas.Grind.{common_steps}
use Rattle.std.proofs.lemmas.List.Sums.{sum_by-drop_more}
use Rattle.std.specs.List.{All}
use Rattle.hunk_objects.specs.ProgramUnit.{hunk_count}
use Rattle.hunk_link.specs.Ranks.{IsRanked, hunks_of}
use Rattle.hunk_link.proofs.RanksLemmas.{IsRanked-hunks_of, hunks_of-hunk_made, hunks_of-made, hunks_of-unit_begun, hunks_of-unit_made, length-hunks_of}
use Rattle.hunk_link.proofs.ranked_hunk.ranked_hunks.Goals as goal

pub loop-unit-init : goal.loop-unit-init
loop-unit-init g c =
    let units = c.args.units.now in
    record {
      room = c.in_ok-ranked.ensures.exact;
      len = omega (arith, c.in_ok-ranked.ensures.len, c.requires.total, length-hunks_of units);
      value = rw (c.in_ok-ranked.ensures.items, c.in_ok-ranked.ensures.len);
    }

pub overflow_cast-count : goal.overflow_cast-count
overflow_cast-count g c =
    let u = c.index-units-unit in
    let more = sum_by-drop_more hunk_count c.args.units.now c.loop-unit.unit u.result c.loop-unit-test.true in
    record { fits = omega (arith, more, ap hunk_count u.is, ap length c.hunks.ensures.value, c.loop-unit.invariant.len, c.requires.total, c.requires.counted.few) }

pub loop-number-init : goal.loop-number-init
loop-number-init g c =
    let u = c.index-units-unit in
    record {
      room = c.loop-unit.invariant.room;
      len = omega (arith, c.len-first.ensures);
      value = hunks_of-unit_begun c.loop-unit.ranked.items _ c.loop-unit.unit _ c.len-first.result _ c.args.units.now u.result c.hunks-hunk-items.result.now
          c.loop-unit-test.true u.is c.len-first.ensures (ap length c.hunks.ensures.value) c.hunks-hunk-items.ensures.value c.loop-unit.invariant.value;
    }

pub loop-number-preserved : goal.loop-number-preserved
loop-number-preserved g c =
    record {
      room = c.push_reserved.ensures.capacity ∙ c.loop-number.invariant.room;
      len = omega (arith, c.push_reserved.ensures.len, c.loop-number.invariant.len);
      value = rw c.push_reserved.ensures.items (hunks_of-hunk_made c.loop-number.ranked.items _ _ c.loop-unit.unit c.len-first.result _ c.loop-number.number c.hunks-hunk-items.result.now c.hunk-item.result
          c.loop-number-test.true c.hunk-item.is c.loop-number.invariant.value);
    }

pub loop-unit-preserved : goal.loop-unit-preserved
loop-unit-preserved g c =
    let units = c.args.units.now in
    let u = c.index-units-unit in
    let more = sum_by-drop_more hunk_count units c.loop-unit.unit u.result c.loop-unit-test.true in
    let count = ap length c.hunks.ensures.value in
    let items = ap length c.hunks-hunk-items.ensures.value in
    record {
      room = c.loop-number.invariant.room;
      len = omega (arith, more, ap hunk_count u.is, count, items, c.len-first.ensures, c.loop-unit.invariant.len, c.loop-number.invariant.len);
      value = hunks_of-unit_made c.loop-number.ranked.items _ c.loop-unit.unit c.len-first.result _ c.loop-number.number _ c.args.units.now c.hunks-hunk-items.result.now
          c.loop-number-test.false (omega (arith, count, items, c.loop-number.invariant.len)) c.loop-number.invariant.value;
    }

pub returns-clause-ranks : goal.returns-clause-ranks
returns-clause-ranks g c =
    let units = c.args.units.now in
    let all = hunks_of-made c.loop-unit.ranked.items (hunks_of units) c.loop-unit.unit _ units c.loop-unit-test.false c.loop-unit.invariant.value in
    subst (All IsRanked) (sym all) (IsRanked-hunks_of units c.requires.counted)

-- `grind` at once: `search`, which Rattle tries before it, is slow here
pub bounds-hunk-items-number : goal.bounds-hunk-items-number
bounds-hunk-items-number g c = grind (arith, common_steps)

pub overflow_cast-number : goal.overflow_cast-number
overflow_cast-number g c = grind (arith, common_steps)

pub push_reserved-requires : goal.push_reserved-requires
push_reserved-requires g c =
    let u = c.index-units-unit in
    let more = sum_by-drop_more hunk_count c.args.units.now c.loop-unit.unit u.result c.loop-unit-test.true in
    omega (
      arith,
      more,
      ap hunk_count u.is,
      ap length c.hunks.ensures.value,
      ap length c.hunks-hunk-items.ensures.value,
      c.len-first.ensures,
      c.loop-unit.invariant.len,
      c.loop-number.invariant.len,
      c.loop-number.invariant.room,
      c.loop-number-test.true,
    )

pub returns-clause-value : goal.returns-clause-value
returns-clause-value g c = grind (arith, common_steps)
