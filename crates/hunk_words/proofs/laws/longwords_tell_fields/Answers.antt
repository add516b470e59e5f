-- The fields of a tree are the labels of its longwords.
use Rattle.hunk_words.proofs.ReadingSameLemmas.{object-same, load-same}
use Rattle.hunk_words.proofs.laws.longwords_tell_fields.Goals as goal

pub returns-clause-object : goal.returns-clause-object
returns-clause-object c = object-same

pub returns-clause-load : goal.returns-clause-load
returns-clause-load c = load-same
