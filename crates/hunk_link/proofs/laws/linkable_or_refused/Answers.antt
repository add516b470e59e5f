use Rattle.hunk_link.proofs.LinkableLemmas.{linkable-or_refused}
use Rattle.hunk_link.proofs.laws.linkable_or_refused.Goals as goal

pub returns : goal.returns
returns g c = linkable-or_refused
