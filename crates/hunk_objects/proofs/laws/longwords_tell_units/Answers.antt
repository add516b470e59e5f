use Rattle.hunk_objects.proofs.PartialLemmas.{one-object}
use Rattle.hunk_objects.proofs.laws.longwords_tell_units.Goals as goal

pub returns : goal.returns
returns c = one-object
