-- What a taker that checks sites and counts holds of the events that it has taken.
use Rattle.std.specs.Prelude.{◌≡◌, ℕ, ◌+◌, ◌≤◌, List, length, sum_by}
use Rattle.hunk_words.specs.EventValue.{EventValue, value_of_events, initial_object}
use Rattle.hunk_words.specs.PartialHunk.{HoldsContext}
use Rattle.hunk_words.specs.Values.{Part}
use Rattle.hunk_words.specs.Taker.{context_of}
use Rattle.hunk_words.specs.SiteContext.{SiteContext}
use Rattle.hunk_words.specs.declared.event.Event.{Event}
use Rattle.hunk_words.specs.declared.event.FileKind.TheVariants.{Object, Load}
use Rattle.hunk_objects.specs.ProgramUnit.{IsObjectOf, ObjectUnit, hunk_count}
use Rattle.hunk_loadfile.specs.LoadFile.{IsLoadOf}
use Rattle.hunk_loadfile.specs.LoadHunk.{FileHunk}
use Rattle.hunk_files.specs.declared.counters.ObjectCounter.{ObjectCounter}
use Rattle.hunk_files.specs.declared.counters.LoadCounter.{LoadCounter}

-- the number of units so far, and of the hunks of all units
abbrev pub units_of : {A : Type 0} → ObjectCounter A → ℕ
units_of counter = counter.units

abbrev pub hunks_of : {A : Type 0} → ObjectCounter A → ℕ
hunks_of counter = counter.hunks

-- the number of hunks in the header
abbrev pub header_hunks : {A : Type 0} → LoadCounter A → ℕ
header_hunks counter = length counter.sizes.items

-- the hunks of all parts
abbrev pub hunk_total : List Part → ℕ
hunk_total parts = sum_by (λ part. length part.hunks) parts

-- It holds the numbers of units and of their hunks, and the limit and the sites of the current
-- hunk.
pub record ObjectHolds {A : Type 0} (built : EventValue) (context : SiteContext) (counter : ObjectCounter A) : Type 0 where
  pub same_units : counter.units ≡ length built.parts
  pub same_hunks : counter.hunks ≡ hunk_total built.parts
  pub holds_hunk : HoldsContext context counter.hunk

pub record ObjectStandsFor {A : Type 0} (counter : ObjectCounter A) (told : List Event) : Type 0 where
  pub holds : ObjectHolds (value_of_events initial_object told) (context_of Object told) counter
  pub few : counter.units + counter.hunks ≤ length told

-- It holds the sizes in the header and the number of hunks that have ended too.
pub record LoadHolds {A : Type 0} (context : SiteContext) (counter : LoadCounter A) : Type 0 where
  pub same_sizes : counter.sizes.items ≡ context.position.sizes
  pub same_ended : counter.ended ≡ context.position.ended
  pub holds_hunk : HoldsContext context counter.hunk

pub record LoadStandsFor {A : Type 0} (counter : LoadCounter A) (told : List Event) : Type 0 where
  pub holds : LoadHolds (context_of Load told) counter
  pub few : counter.ended ≤ length told

-- ---- at the end of a file

-- The bytes are an object file, with this counter's numbers of units and of hunks.
pub record CountsObject {A : Type 0} (counter : ObjectCounter A) (bytes : List ℕ) : Type 0 where
  pub units : List ObjectUnit
  pub is_file : IsObjectOf units bytes
  pub same_units : units_of counter ≡ length units
  pub same_hunks : hunks_of counter ≡ sum_by hunk_count units

-- The bytes are a load file, with this counter's number of hunks.
pub record CountsLoad {A : Type 0} (counter : LoadCounter A) (bytes : List ℕ) : Type 0 where
  pub hunks : List FileHunk
  pub is_file : IsLoadOf hunks bytes
  pub same_hunks : header_hunks counter ≡ length hunks
