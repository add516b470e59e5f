-- What a decoder core stands for: the longwords that it was given.
use Rattle.std.specs.Prelude.{◌≡◌, ℕ, ◌+◌, ◌-◌, ◌*◌, ◌<◌, ◌≤◌, List, [], ◌∷◌, ◌++◌, length, take, Option, Some, None, Result, Ok, Err}
use Rattle.hunk_words.specs.Kinds.{Field}
use Rattle.hunk_words.specs.Reading.{Progress, start_of, initial_progress, read_words, labels}
use Rattle.hunk_words.specs.Files.{Tree, spelling, most_longwords, IsFileOf}
use Rattle.hunk_words.specs.FirstOffence.{OffendsAt, FirstOffence}
use Rattle.hunk_base.specs.Longwords.{AllLong, longwords}
use Rattle.hunk_words.specs.Event.{events}
use Rattle.hunk_words.specs.Numbers.{Reached, at_offset}
use Rattle.hunk_words.specs.declared.event.FileKind.{FileKind}
use Rattle.hunk_words.specs.declared.event.Event.{Event}
use Rattle.hunk_base.specs.declared.fault.Fault.{Fault}
use Rattle.hunk_base.specs.declared.fault.Refusal.{Refusal}
use Rattle.hunk_base.specs.declared.fault.Refusal.TheVariants as refusal_is
use Rattle.hunk_words.specs.declared.decoder_core.Core.{Core}
use Rattle.hunk_words.specs.declared.decoder_core.CoreState.{CoreState}
use Rattle.hunk_words.specs.declared.numbers.NumberRefusal.{NumberRefusal}
use Rattle.hunk_words.specs.declared.numbers.NumberRefusal.TheVariants.{Refused, OutOfMemory}
use Rattle.hunk_words.specs.declared.state.State.{State}

-- the fields of longwords, as the machine reads them
abbrev pub fields_read : FileKind → List ℕ → List Field
fields_read kind ws = labels (start_of kind ∷ []) ws

-- The longwords were all read: the state is the one after them, and the taker stands for their
-- events.
pub record Behind (kind : FileKind) (Stands : List Event → Type 0) (state : CoreState) (ws : List ℕ) : Type 0 where
  pub progress : Progress
  pub read : read_words (initial_progress kind) 0 ws ≡ Ok progress
  pub reached : Reached kind Stands state.state (fields_read kind ws) progress
  pub place : state.place ≡ length ws
  pub few : length ws ≤ most_longwords
  pub long : AllLong ws

-- If no error is kept, the longwords were all read. A fault that is kept is their first offence.
pub record StandsBy (kind : FileKind) (Stands : List Event → Type 0) (state : CoreState) (ws : List ℕ) : Type 0 where
  pub good : state.refusal ≡ None → Behind kind Stands state ws
  pub faulty : (fault : Fault) → state.refusal ≡ Some (refusal_is.Fault fault) → OffendsAt kind ws fault.place fault.reason

-- the taker of a core
abbrev pub taker_of : {T : Type 0} → Core T → T
taker_of core = core.taker

-- the error that a core keeps
abbrev pub kept : {T : Type 0} → Core T → Option Refusal
kept core = core.state.refusal

abbrev pub StandsFor : {T : Type 0} → FileKind → (T → List Event → Type 0) → Core T → List ℕ → Type 0
StandsFor kind stands_for core ws = StandsBy kind (stands_for (taker_of core)) core.state ws

-- The result is the error that is kept.
abbrev pub Keeps : {A : Type 0} → Option Refusal → Result A Refusal → Type 0
Keeps refusal (Ok done) = refusal ≡ None
Keeps refusal (Err e) = refusal ≡ Some e

-- The longwords are a file, and this holds of its events.
pub record TellsFile (kind : FileKind) (Stands : List Event → Type 0) (ws : List ℕ) : Type 0 where
  pub tree : Tree kind
  pub is_file : IsFileOf kind tree ws
  pub stands : Stands (events (spelling kind tree))

-- the result at the end of longwords, with this many bytes after them
abbrev pub EndAnswered : {T : Type 0} → FileKind → (T → List Event → Type 0) → List ℕ → ℕ → Result T Refusal → Type 0
EndAnswered kind stands_for ws rest (Ok taker) = (rest ≡ 0) × TellsFile kind (stands_for taker) ws
EndAnswered kind stands_for ws rest (Err (refusal_is.Fault fault)) = FirstOffence kind ws rest fault.place fault.reason
EndAnswered kind stands_for ws rest (Err refusal_is.OutOfMemory) = Unit {0}

-- This many longwords of the bytes were taken; or an error is kept.
abbrev pub SomeTaken : {T : Type 0} → FileKind → (T → List Event → Type 0) → Core T → (ws bytes : List ℕ) → Result ℕ Refusal → Type 0
SomeTaken kind stands_for core ws bytes (Ok count) = StandsFor kind stands_for core (ws ++ longwords (take (4 * count) bytes))
SomeTaken kind stands_for core ws bytes (Err refusal) = StandsFor kind stands_for core (ws ++ longwords bytes)

-- the error for a longword at this place that is refused
abbrev pub refused_at : ℕ → NumberRefusal → Refusal
refused_at place (Refused reason) = refusal_is.Fault (record { place = place; reason = reason })
refused_at place OutOfMemory = refusal_is.OutOfMemory

-- a core without an error, in a list of offsets to one hunk
abbrev pub in_offsets : State → (more target place : ℕ) → CoreState
in_offsets state more target place = record { state = at_offset state more target; place = place; refusal = None }

-- All of these offsets to one hunk were taken; or the error stands for them.
abbrev pub OffsetsTaken : FileKind → (List Event → Type 0) → State → (more target place : ℕ) → (ws us : List ℕ) → Result (Unit {0}) Refusal → Type 0
OffsetsTaken kind Stands state more target place ws us (Ok done) = Behind kind Stands (in_offsets state (more - length us) target (place + length us)) (ws ++ us)
OffsetsTaken kind Stands state more target place ws us (Err refusal) = (core : CoreState) → core.refusal ≡ Some refusal → StandsBy kind Stands core (ws ++ us)

-- at least one of the longwords of these bytes
abbrev pub TakesSome : List ℕ → Result ℕ Refusal → Type 0
TakesSome bytes (Ok count) = (0 < count) × (4 * count ≤ length bytes)
TakesSome bytes (Err refusal) = Unit {0}
