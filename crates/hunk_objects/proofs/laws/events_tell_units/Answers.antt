use Rattle.hunk_objects.proofs.PartialLemmas.{partial-whole}
use Rattle.hunk_objects.proofs.laws.events_tell_units.Goals as goal

pub returns : goal.returns
returns c = partial-whole
