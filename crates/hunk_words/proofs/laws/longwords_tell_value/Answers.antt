-- The same longwords have the same fields and so the same events, and these build the value.
use Rattle.hunk_words.proofs.ValuesLemmas.{object-one, load-one}
use Rattle.hunk_words.proofs.laws.longwords_tell_value.Goals as goal

pub returns-clause-object : goal.returns-clause-object
returns-clause-object c = object-one

pub returns-clause-load : goal.returns-clause-load
returns-clause-load c = load-one
