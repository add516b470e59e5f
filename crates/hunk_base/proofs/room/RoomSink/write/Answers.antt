-- named, so that a mistake is refused without a look for advice
use Rattle.std.proofs.Common.{rules}
use Rattle.hunk_base.proofs.room.RoomSink.write.Goals as goal

pub returns-then-not-is_empty-clause-failed : goal.returns-then-not-is_empty-clause-failed
returns-then-not-is_empty-clause-failed g c = search rules
