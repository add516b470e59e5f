-- The load file of the events so far: the hunks that have ended.
use Rattle.std.specs.Prelude.{◌≡◌, ◌≤◌, ℕ, List, [], ◌∷◌, length}
use Rattle.hunk_words.specs.Values.{Hunk, Part}
use Rattle.hunk_words.specs.EventValue.{EventValue, value_of_events, initial_load}
use Rattle.hunk_words.specs.SiteContext.{SiteContext}
use Rattle.hunk_words.specs.declared.event.Event.{Event}
use Rattle.hunk_loadfile.specs.LoadHunk.{FileHunk}
use Rattle.hunk_loadfile.specs.LoadFile.{file_hunk}

-- hunks, with the memory bits and the sizes from the header
abbrev pub file_hunks : List (ℕ × ℕ) → List Hunk → List FileHunk
file_hunks [] hs = []
file_hunks (s ∷ ss) [] = []
file_hunks (s ∷ ss) (h ∷ hs) = file_hunk s.0 s.1 h ∷ file_hunks ss hs

-- the hunks of the first part
abbrev pub first_hunks : List Part → List Hunk
first_hunks [] = []
first_hunks (p ∷ ps) = p.hunks

-- the partial load file after events
abbrev pub partial : List Event → List FileHunk
partial told = file_hunks (value_of_events initial_load told).sizes (first_hunks (value_of_events initial_load told).parts)

-- In the one part of the events these hunks have ended, with their memory and sizes from the header.
pub record HaveEnded (hunks : List FileHunk) (told : EventValue) (watch : SiteContext) : Type 0 where
  pub part : Part
  pub one_part : told.parts ≡ part ∷ []
  pub values : hunks ≡ file_hunks told.sizes part.hunks
  pub few : length part.hunks ≤ length told.sizes
  pub count : watch.position.ended ≡ length part.hunks
