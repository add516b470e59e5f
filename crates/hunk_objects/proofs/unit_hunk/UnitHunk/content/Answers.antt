-- named, so that a mistake is refused without a look for advice
use Rattle.std.proofs.Common.{rules}
use Rattle.hunk_objects.proofs.unit_hunk.UnitHunk.content.Goals as goal

pub returns-clause-value : goal.returns-clause-value
returns-clause-value g c = search rules
