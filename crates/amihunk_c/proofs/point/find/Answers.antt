-- The hunk has the byte.
use Rattle.amihunk_c.proofs.PointsLemmas.{IsAt-found}
use Rattle.amihunk_c.proofs.point.find.Goals as goal

pub returns-in-Some : goal.returns-in-Some
returns-in-Some c = IsAt-found c.args.hunks.now c.loop-number.number c.args.address c.in-Some.offset c.index-hunks-number.result c.loop-number-test.true c.index-hunks-number.is c.in-Some.ensures
