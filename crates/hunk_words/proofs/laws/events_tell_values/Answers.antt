-- A file's value is built part by part.
use Rattle.hunk_words.proofs.EventValueTreeLemmas.{object-told, load-told}
use Rattle.hunk_words.proofs.laws.events_tell_values.Goals as goal

pub returns-clause-object : goal.returns-clause-object
returns-clause-object c = object-told

pub returns-clause-load : goal.returns-clause-load
returns-clause-load c = load-told
