use Rattle.std.proofs.Common.{ap, inl, inr, arith, sum_by}
use Rattle.std.proofs.lemmas.Grind.{common_steps}
use Rattle.std.proofs.lemmas.List.{take_all}
use Rattle.hunk_link.proofs.LimitsLemmas.{IsSmall-from, carried_longwords-hunks_of, room-passed, size_of-hunks_of, unit_carried, unit_size}
use Rattle.hunk_link.proofs.limits.is_small.Goals as goal

pub returns-in-None : goal.returns-in-None
returns-in-None g c = λ small.
    let units = c.args.units.now in
    let i = c.loop-unit.unit-index in
    let unit = c.unit-item in
    elim c.in-None.ensures [
      | inl long ↦ omega (arith, small.size, size_of-hunks_of units, room-passed unit_size units i unit.result _ _ c.loop-unit-test.true unit.is c.loop-unit.invariant.size long)
      | inr long ↦ omega (arith, small.carried, carried_longwords-hunks_of c.args.strip units, room-passed (unit_carried c.args.strip) units i unit.result _ _ c.loop-unit-test.true unit.is c.loop-unit.invariant.carried long)
    ]

pub returns : goal.returns
returns g c =
    let units = c.args.units.now in
    let strip = c.args.strip in
    let whole = take_all c.loop-unit.unit-index units c.loop-unit-test.false in
    IsSmall-from strip units (omega (arith, ap (sum_by unit_size) whole, c.loop-unit.invariant.size)) (omega (arith, ap (sum_by (unit_carried strip)) whole, c.loop-unit.invariant.carried))

-- `grind` at once: `search`, which Rattle tries before it, is slow here
pub loop-unit-preserved : goal.loop-unit-preserved
loop-unit-preserved g c = grind (arith, common_steps)
