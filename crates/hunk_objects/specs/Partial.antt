-- The units of the events so far.
use Rattle.std.specs.Prelude.{List}
use Rattle.hunk_words.specs.EventValue.{value_of_events, initial_object}
use Rattle.hunk_words.specs.declared.event.Event.{Event}
use Rattle.hunk_objects.specs.ProgramUnit.{ObjectUnit, object_units}

-- the partial object file after events: each unit with its hunks that have ended
abbrev pub partial : List Event → List ObjectUnit
partial told = object_units (value_of_events initial_object told).parts
