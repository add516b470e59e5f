-- named, so that a mistake is refused without a look for advice
use Rattle.std.proofs.Common.{rules}
use Rattle.hunk_objects.proofs.unit_hunk.UnitHunk.into_parts.Goals as goal

pub returns-clause-size : goal.returns-clause-size
returns-clause-size g c = search rules
