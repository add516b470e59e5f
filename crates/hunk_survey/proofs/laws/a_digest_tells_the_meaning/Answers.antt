use Rattle.hunk_survey.proofs.DigestLawsLemmas.{one_digest-is_collision, same-have_one_digest}
use Rattle.hunk_survey.proofs.laws.a_digest_tells_the_meaning.Goals as goal

pub returns-clause-same : goal.returns-clause-same
returns-clause-same c = same-have_one_digest

pub returns-clause-collision : goal.returns-clause-collision
returns-clause-collision c = one_digest-is_collision
