-- What is read is taken as its labels, and what is taken is filled by a tree.
use Rattle.hunk_words.proofs.ReadingLabelLemmas.{read-is-object, read-is-load}
use Rattle.hunk_words.proofs.laws.read_is_spelled.Goals as goal

pub returns-clause-object : goal.returns-clause-object
returns-clause-object c = read-is-object

pub returns-clause-load : goal.returns-clause-load
returns-clause-load c = read-is-load
