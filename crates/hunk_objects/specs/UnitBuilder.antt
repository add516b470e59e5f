-- What a builder of program units stands for: the events that it has taken.
use Rattle.std.specs.Prelude.{◌≡◌, ◌⊎◌, ℕ, ◌<◌, List, [], ◌∷◌, ◌++◌, Option, Some, None, Result, MatchResult, Vec, vec_len, vec_capacity}
use Rattle.hunk_base.specs.OpenName.{Opens, bytes_so_far}
use Rattle.hunk_words.specs.PartialHunk.{goes_to_content}
use Rattle.hunk_words.specs.Values.{Part}
use Rattle.hunk_words.specs.EventValue.{Receiver as ToldReceiver, EventValue, value_of_events, initial_object, step}
use Rattle.hunk_words.specs.EventValue.Receiver.{nothing_more, to_unit_name, to_name, to_content, to_debug}
use Rattle.hunk_words.specs.SiteContext.{SiteContext, context_with}
use Rattle.hunk_words.specs.Taker.{context_of}
use Rattle.hunk_words.specs.declared.event.Event.{Event}
use Rattle.hunk_words.specs.declared.event.FileKind.TheVariants.{Object}
use Rattle.hunk_base.specs.declared.name.open_name.OpenName.{OpenName}
use Rattle.hunk_objects.specs.OpenHunk.{Shows, receiver_of}
use Rattle.hunk_objects.specs.OpenUnit.{ShowsUnit, UnitSoFar}
use Rattle.hunk_objects.specs.ProgramUnit.{ObjectUnit, object_units}
use Rattle.hunk_objects.specs.declared.open_hunk.Named.{Named}
use Rattle.hunk_objects.specs.declared.unit_builder.Receiver.{Receiver}
use Rattle.hunk_objects.specs.declared.unit_builder.Receiver.TheVariants.{UnitName, HunkName, Hunk, Debug, Name}
use Rattle.hunk_objects.specs.declared.unit_builder.UnitBuilder.{UnitBuilder}

-- ---- units

-- The units that have ended are these parts, and the current one is the last part.
pub record ShowsUnits {A : Type 0} (units : List ObjectUnit) (unit : UnitSoFar A) (parts : List Part) : Type 0 where
  pub ended : List Part
  pub last : Part
  pub parts_are : parts ≡ ended ++ (last ∷ [])
  pub units_are : units ≡ object_units ended
  pub shows : ShowsUnit unit last

-- Before the first unit there are no parts.
abbrev pub ShowsParts : {A : Type 0} → List ObjectUnit → Option (UnitSoFar A) → List Part → Type 0
ShowsParts units None parts = (units ≡ []) × (parts ≡ [])
ShowsParts units (Some unit) parts = ShowsUnits units unit parts

-- there is room for the current unit
abbrev pub HasRoom : {A : Type 0} → Vec ObjectUnit A → Option (UnitSoFar A) → Type 0
HasRoom units None = Unit {0}
HasRoom units (Some unit) = vec_len units < vec_capacity units

-- the units that have ended, and the current one
abbrev pub units_so_far : {A : Type 0} → List ObjectUnit → Option (UnitSoFar A) → List ObjectUnit
units_so_far units None = units
units_so_far units (Some unit) = units ++ (record { name = bytes_so_far unit.name; hunks = unit.hunks } ∷ [])

-- ---- where the next word goes

-- to the longwords of what has a name
pub record NameSoFar {A : Type 0} (named : Named) (name : OpenName A) (goes : ToldReceiver) : Type 0 where
  pub words : List ℕ
  pub goes_there : goes ≡ receiver_of named words
  pub opens : Opens name words

-- The next word goes where the events say. The hunk knows whether it is content.
abbrev pub Receives : {A : Type 0} → Receiver A → ToldReceiver → Type 0
Receives UnitName goes = goes ≡ to_unit_name
Receives HunkName goes = goes ≡ to_name
Receives Hunk goes = (goes ≡ nothing_more) ⊎ (goes ≡ to_content)
Receives Debug goes = goes ≡ to_debug
Receives (Name named name) goes = NameSoFar named name goes

-- ---- the builder

-- The builder holds what the events build, and the sites that were seen.
pub record Holds {A : Type 0} (builder : UnitBuilder A) (told : EventValue) (context : SiteContext) : Type 0 where
  pub units : ShowsParts builder.units.items builder.unit told.parts
  pub room : HasRoom builder.units builder.unit
  pub hunk : Shows builder.hunk context.position.limit context.seen (goes_to_content told.receiver) told.hunk
  pub receiver : Receives builder.receiver told.receiver

-- It takes the event, or is left as it was.
abbrev pub Steps : {A E : Type 0} → UnitBuilder A → UnitBuilder A → Result (Unit {0}) E → Event → Type 0
Steps old new answer event = (told : EventValue) (context : SiteContext) → Holds old told context
    → MatchResult answer (λ done. Holds new (step told event) (context_with Object context event)) (λ e. Holds new told context)

abbrev pub StandsFor : {A : Type 0} → UnitBuilder A → List Event → Type 0
StandsFor builder told = Holds builder (value_of_events initial_object told) (context_of Object told)
