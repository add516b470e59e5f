-- A file is taken part by part.
use Rattle.hunk_words.proofs.SpellingTakenLemmas.{object-taken, load-taken}
use Rattle.hunk_words.proofs.laws.spelled_is_taken.Goals as goal

pub returns-clause-object : goal.returns-clause-object
returns-clause-object c = object-taken

pub returns-clause-load : goal.returns-clause-load
returns-clause-load c = load-taken
