use Rattle.hunk_loader.proofs.PlacesLemmas.{placed-or-refused}
use Rattle.hunk_loader.proofs.laws.hunks_are_placed_or_refused.Goals as goal

pub returns : goal.returns
returns c = placed-or-refused
