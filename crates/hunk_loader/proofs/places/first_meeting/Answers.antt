use Rattle.std.proofs.Common.{arith}
use Rattle.hunk_loader.proofs.places.first_meeting.Goals as goal

pub returns : goal.returns
returns g c = λ earlier before. c.loop-earlier.invariant earlier (omega arith)
