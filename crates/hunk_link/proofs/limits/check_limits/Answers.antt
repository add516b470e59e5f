use Rattle.std.proofs.Common.{arith}
use Rattle.hunk_link.proofs.LimitsLemmas.{IsHunkCount-from}
use Rattle.hunk_link.proofs.RanksLemmas.{length-hunks_of}
use Rattle.hunk_link.proofs.limits.check_limits.Goals as goal

pub returns-in-None-clause-refused : goal.returns-in-None-clause-refused
returns-in-None-clause-refused g c = omega (arith, c.in-None.ensures.count, length-hunks_of c.args.units.now)

pub returns-in-Some-eq0-clause-refused : goal.returns-in-Some-eq0-clause-refused
returns-in-Some-eq0-clause-refused g c = omega (arith, c.in-Some-eq0.ensures.count.0, c.in-Some-eq0.field-0-is, length-hunks_of c.args.units.now)

pub returns-then-is_small-clause-total : goal.returns-then-is_small-clause-total
returns-then-is_small-clause-total g c = omega (arith, c.in-Some.ensures.count.0, length-hunks_of c.args.units.now)

pub returns-then-is_small-clause-counted : goal.returns-then-is_small-clause-counted
returns-then-is_small-clause-counted g c = IsHunkCount-from c.args.units.now (omega (arith, c.in-Some.ensures.count.0, c.in-Some.total-test.1)) (omega (arith, c.in-Some.ensures.count))

pub returns-else-is_small-clause-refused : goal.returns-else-is_small-clause-refused
returns-else-is_small-clause-refused g c = (IsHunkCount-from c.args.units.now (omega (arith, c.in-Some.ensures.count.0, c.in-Some.total-test.1)) (omega (arith, c.in-Some.ensures.count)), c.if-is_small.ensures)
