use Rattle.std.proofs.Common.{arith, ap, length, subst}
use Rattle.std.proofs.lemmas.Grind.{common_steps}
use Rattle.std.proofs.lemmas.List.Elements.{All-more}
use Rattle.std.proofs.lemmas.List.Sums.{sum_by_more, sum_by_more_le}
use Rattle.hunk_objects.specs.ProgramUnit.{hunk_count}
use Rattle.hunk_link.specs.Ranks.{IsUnit}
use Rattle.hunk_link.proofs.limits.hunk_count.Goals as goal

pub returns-then-more-count-clause-count : goal.returns-then-more-count-clause-count
returns-then-more-count-clause-count g c =
    let x = c.unit-item.result in
    omega (arith, sum_by_more_le hunk_count c.args.units.now c.loop-unit.unit-index x c.loop-unit-test.true, ap hunk_count c.unit-item.is, ap length c.hunks-more.ensures.value)

pub loop-unit-preserved : goal.loop-unit-preserved
loop-unit-preserved g c =
    let x = c.unit-item.result in
    record {
      counted = omega (arith, sum_by_more hunk_count c.args.units.now c.loop-unit.unit-index x c.loop-unit-test.true, ap hunk_count c.unit-item.is, ap length c.hunks-more.ensures.value);
      few = omega arith;
      typed = All-more IsUnit c.args.units.now c.loop-unit.unit-index x c.loop-unit-test.true c.loop-unit.invariant.typed (subst IsUnit c.unit-item.is c.hunks-more.ensures.valid);
    }

-- `grind` at once: `search`, which Rattle tries before it, is slow here
pub loop-unit-init : goal.loop-unit-init
loop-unit-init g c = grind (arith, common_steps)

pub returns-clause-count : goal.returns-clause-count
returns-clause-count g c = grind (arith, common_steps)

pub returns-clause-typed : goal.returns-clause-typed
returns-clause-typed g c = grind (arith, common_steps)
