-- named, so that a mistake is refused without a look for advice
use Rattle.std.proofs.Common.{rules}
use Rattle.hunk_base.proofs.watched.WatchedSource.read.Goals as goal

pub returns-then-not-is_empty-clause-at_end : goal.returns-then-not-is_empty-clause-at_end
returns-then-not-is_empty-clause-at_end g c = search rules
