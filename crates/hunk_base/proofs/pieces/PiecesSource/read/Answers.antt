-- named, so that a mistake is refused without a look for advice
use Rattle.std.proofs.Common.{rules}
use Rattle.hunk_base.proofs.pieces.PiecesSource.read.Goals as goal

pub returns-then-not-is_empty-clause-ended : goal.returns-then-not-is_empty-clause-ended
returns-then-not-is_empty-clause-ended g c = search rules
