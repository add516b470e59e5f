use Rattle.hunk_words.proofs.DueLemmas.{due-one}
use Rattle.hunk_words.proofs.laws.one_thing_is_due.Goals as goal

pub returns : goal.returns
returns c = λ kind ws d e good one other. due-one kind ws d e good one other
