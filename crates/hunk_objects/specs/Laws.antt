-- Laws about object files.
use Rattle.std.specs.Prelude.{◌≡◌, ℕ, List}
use Rattle.hunk_words.specs.Event.{events}
use Rattle.hunk_words.specs.Spelling.{object_spelling, ObjectFits}
use Rattle.hunk_words.specs.Trees.{ObjectTree}
use Rattle.hunk_words.specs.Values.{object_value}
use Rattle.hunk_objects.specs.Partial.{partial}
use Rattle.hunk_objects.specs.ProgramUnit.{IsObject, ObjectUnit, object_units}

-- Decoding is unambiguous: a list of longwords is the object file of one list of units at most.
abbrev pub OneObject : Type 0
OneObject = (one other : List ObjectUnit) (ws : List ℕ) → IsObject one ws → IsObject other ws → one ≡ other

-- After the events of a whole file the units so far are those of the file.
abbrev pub WholeIsPartial : Type 0
WholeIsPartial = (t : ObjectTree) → ObjectFits t → partial (events (object_spelling t)) ≡ object_units (object_value t)
