-- named, so that a mistake is refused without a look for advice
use Rattle.std.proofs.Common.{rules}
use Rattle.hunk_objects.proofs.object_decoder.read_object.Goals as goal

pub returns-clause-file : goal.returns-clause-file
returns-clause-file g c = search rules

pub returns-clause-ended : goal.returns-clause-ended
returns-clause-ended g c = search rules
