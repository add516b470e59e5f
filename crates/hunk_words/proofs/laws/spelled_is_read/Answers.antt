-- What is taken is read, since a file starts and ends at whole longwords.
use Rattle.std.proofs.Common.{[], ◌∷◌, refl}
use Rattle.hunk_words.specs.Kinds.Kind.{object_start, load_start, unit_type}
use Rattle.hunk_words.specs.Spelling.{object_spelling, load_spelling}
use Rattle.hunk_words.proofs.SpellingTakenLemmas.{object-taken, load-taken}
use Rattle.hunk_words.proofs.ReadingLemmas.{taken-read}
use Rattle.hunk_words.proofs.laws.spelled_is_read.Goals as goal

pub returns-clause-object : goal.returns-clause-object
returns-clause-object c = λ t fits. taken-read (object_start ∷ []) (object_spelling t) (unit_type ∷ []) (refl, refl) (refl, refl) (object-taken t fits)

pub returns-clause-load : goal.returns-clause-load
returns-clause-load c = λ t fits. taken-read (load_start ∷ []) (load_spelling t) [] (refl, refl) refl (load-taken t fits)
