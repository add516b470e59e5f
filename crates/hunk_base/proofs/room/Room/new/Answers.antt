-- named, so that a mistake is refused without a look for advice
use Rattle.std.proofs.Common.{rules}
use Rattle.hunk_base.proofs.room.Room.new.Goals as goal

pub invariant_of-result : goal.invariant_of-result
invariant_of-result g c = search rules
