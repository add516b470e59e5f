-- What a builder of an image holds after events: the partial load file of these events, loaded at the bases.
use Rattle.std.specs.declared.alloc.AllocError.{AllocError}
use Rattle.std.specs.Prelude.{◌≡◌, ◌≢◌, ℕ, ◌+◌, ◌*◌, ◌<◌, ◌≤◌, false, List, [], ◌∷◌, ◌++◌, length, map, Option, Some, None, Result, Ok, Err, OnOk, OnErr, slice_index, ⊤}
use Rattle.std.specs.List.{All}
use Rattle.hunk_words.specs.EventValue.{EventValue, value_of_events, step, initial_load}
use Rattle.hunk_words.specs.Event.{word_events}
use Rattle.hunk_base.specs.Name.{bytes_of}
use Rattle.hunk_words.specs.PartialHunk.{HoldsContext, HunkSoFar, goes_to_content}
use Rattle.hunk_base.specs.Sites.{AreApart}
use Rattle.hunk_words.specs.Taker.{Judges, context_of}
use Rattle.hunk_words.specs.Values.{Hunk, Part}
use Rattle.hunk_words.specs.SiteContext.{SiteContext, context_with}
use Rattle.hunk_words.specs.declared.event.Event.{Event}
use Rattle.hunk_words.specs.declared.event.FileKind.TheVariants.{Load}
use Rattle.hunk_base.specs.declared.sites.SiteRefusal.{SiteRefusal}
use Rattle.hunk_loadfile.specs.LoadFile.{with_sites}
use Rattle.hunk_loadfile.specs.Partial.{file_hunks}
use Rattle.hunk_loadfile.specs.Patching.{patched_bytes}
use Rattle.hunk_loader.specs.Image.{hunks_of}
use Rattle.hunk_loader.specs.Loading.{loaded}
use Rattle.hunk_loader.specs.Places.{Placed as ArePlaced, IsFirstRefusal}
use Rattle.hunk_loader.specs.declared.image_builder.ImageBuilder.TheInside.{Inside}
use Rattle.hunk_loader.specs.declared.loading.LoadRefusal.{LoadRefusal}
use Rattle.hunk_loader.specs.declared.loading.LoadRefusal.TheVariants.{Place}
use Rattle.hunk_loader.specs.declared.places.PlaceFault.{PlaceFault}
use Rattle.hunk_loader.specs.declared.placing.Placing.{Placing}
use Rattle.hunk_loader.specs.declared.placing.Placing.TheVariants.{Unknown, Placed, Refused}

-- The bases, the sizes in the header, whether the hunks are placed, the hunks that have ended,
-- their number, and the current one.
pub record BuilderState : Type 0 where
  pub bases : List ℕ
  pub sizes : List ℕ
  pub placing : Placing
  pub ended : ℕ
  pub made : List (ℕ × List ℕ)
  pub current : Option (HunkSoFar ℕ)

-- the state that the fields hold
abbrev pub state_of : {A : Type 0} → Inside A → BuilderState
state_of b = record { bases = b.bases.items; sizes = b.sizes.items; placing = b.placing; ended = b.ended; made = hunks_of b.made.items; current = b.current }

-- the state for hunks at these bases, before the first event
abbrev pub initial_builder : List ℕ → BuilderState
initial_builder bases = record { bases = bases; sizes = []; placing = Unknown; ended = 0; made = []; current = None }

-- ---- the current hunk

-- its sites name hunks of the header
abbrev pub NamesHunks : (count : ℕ) → Option (HunkSoFar ℕ) → Type 0
NamesHunks count None = ⊤
NamesHunks count (Some hunk) = All (λ site. site.1 < count) hunk.sites.entries

-- there is nothing in it yet that an image has
pub record ShowsNone (built : EventValue) (context : SiteContext) : Type 0 where
  pub content : built.hunk.content ≡ []
  pub sites : built.hunk.tables.sites ≡ []
  pub words : goes_to_content built.receiver ≡ false
  pub seen : context.seen ≡ []

-- its sites, and its content if the hunks are placed
pub record ShowsOpen (placing : Placing) (hunk : HunkSoFar ℕ) (built : EventValue) (context : SiteContext) : Type 0 where
  pub words : hunk.in_content ≡ goes_to_content built.receiver
  pub sites : hunk.sites.entries ≡ with_sites [] built.hunk.tables.sites
  pub holds : HoldsContext context hunk
  pub limit : context.position.limit ≡ 4 * slice_index context.position.sizes context.position.ended
  pub within : context.position.ended < length context.position.sizes
  pub apart : AreApart hunk.sites
  pub content : placing ≡ Placed → hunk.content ≡ bytes_of built.hunk.content
  pub none : placing ≢ Placed → hunk.content ≡ []
  pub fits : length hunk.content ≤ hunk.sites.limit

abbrev pub Shows : Placing → Option (HunkSoFar ℕ) → EventValue → SiteContext → Type 0
Shows placing None built context = ShowsNone built context
Shows placing (Some hunk) built context = ShowsOpen placing hunk built context

-- ---- the hunks that have ended

-- no hunk has begun
pub record IsUnplaced (state : BuilderState) : Type 0 where
  pub ended : state.ended ≡ 0
  pub made : state.made ≡ []
  pub current : state.current ≡ None

-- they are loaded if they are placed, and not kept if they aren't
abbrev pub Loads : Placing → BuilderState → EventValue → List Hunk → Type 0
Loads Unknown state built hunks = IsUnplaced state
Loads Placed state built hunks = ArePlaced state.sizes state.bases × (state.made ≡ loaded (file_hunks built.sizes hunks) state.bases)
Loads (Refused fault) state built hunks = IsFirstRefusal state.sizes state.bases fault × (state.made ≡ [])

-- The state holds what the events build.
pub record Holds (state : BuilderState) (built : EventValue) (context : SiteContext) : Type 0 where
  pub sizes : state.sizes ≡ context.position.sizes
  pub header : map (λ s. s.1) built.sizes ≡ context.position.sizes
  pub ended : state.ended ≡ context.position.ended
  pub within : context.position.ended ≤ length context.position.sizes
  pub part : Part
  pub parts : built.parts ≡ part ∷ []
  pub counted : length part.hunks ≡ context.position.ended
  pub loads : Loads state.placing state built part.hunks
  pub shows : Shows state.placing state.current built context

-- words are no longer content of the hunk
abbrev pub passed : Option (HunkSoFar ℕ) → Option (HunkSoFar ℕ)
passed None = None
passed (Some hunk) = Some (record hunk { in_content = false })

-- the bytes of the current hunk, loaded
abbrev pub bytes_loaded : List ℕ → HunkSoFar ℕ → List ℕ
bytes_loaded bases hunk = patched_bytes hunk.sites.limit hunk.content hunk.sites.entries (slice_index bases)

-- The current hunk has ended, and is kept.
pub record KeepsHunk (old new : BuilderState) : Type 0 where
  pub hunk : HunkSoFar ℕ
  pub current : old.current ≡ Some hunk
  pub based : old.ended < length old.bases
  pub keeps : new ≡ record old { made = old.made ++ ((slice_index old.bases old.ended, bytes_loaded old.bases hunk) ∷ []); current = None; ended = old.ended + 1 }

-- the result once there are no more events
abbrev pub IsImage : BuilderState → Result (List (ℕ × List ℕ)) LoadRefusal → Type 0
IsImage state (Ok image) = ((fault : PlaceFault) → state.placing ≢ Refused fault) × (image ≡ state.made)
IsImage state (Err (Place fault)) = state.placing ≡ Refused fault
IsImage state (Err _) = ⊥

-- ---- events

-- It takes the event, or is left as it was, and it judges the event.
pub record TakesEvent (old new : BuilderState) (answer : Result (Unit {0}) SiteRefusal) (event : Event) : Type 0 where
  pub takes : (built : EventValue) (context : SiteContext) → Holds old built context → OnOk answer (Holds new (step built event) (context_with Load context event))
  pub refuses : (built : EventValue) (context : SiteContext) → Holds old built context → OnErr answer (Holds new built context)
  pub judges : (built : EventValue) (context : SiteContext) → Holds old built context → Judges context event answer
  pub bases : new.bases ≡ old.bases

abbrev pub StandsFor : BuilderState → List Event → Type 0
StandsFor state told = Holds state (value_of_events initial_load told) (context_of Load told)

-- It takes the words of a run, or is left as it was.
pub record TakesRun (old new : BuilderState) (answer : Result (Unit {0}) AllocError) (words : List ℕ) : Type 0 where
  pub takes : (told : List Event) → StandsFor old told → OnOk answer (StandsFor new (told ++ word_events words))
  pub refused : OnErr answer (new ≡ old)
  pub bases : new.bases ≡ old.bases
