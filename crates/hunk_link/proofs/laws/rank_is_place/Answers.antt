use Rattle.hunk_link.proofs.RanksLemmas.{rank_of-place}
use Rattle.hunk_link.proofs.laws.rank_is_place.Goals as goal

pub returns : goal.returns
returns c = rank_of-place
