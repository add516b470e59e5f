-- What a decoder's state and its taker stand for, one number at a time.
use Rattle.std.specs.Prelude.{◌≡◌, ℕ, ◌<◌, ◌^◌, List, [], ◌∷◌, ◌++◌, length, Some, None, Result, Ok, Err}
use Rattle.hunk_words.specs.Kinds.{Field, field, width, bound}
use Rattle.hunk_words.specs.Machine.{due, Takes}
use Rattle.hunk_words.specs.SiteRules.{seen_all}
use Rattle.hunk_words.specs.Reading.{Progress, start_of, field_judged, field_next, read_word, word_labels}
use Rattle.hunk_words.specs.Event.{events}
use Rattle.hunk_words.specs.Taker.{sizes_told}
use Rattle.hunk_words.specs.State.{view, IsState}
use Rattle.hunk_words.specs.declared.event.FileKind.{FileKind}
use Rattle.hunk_words.specs.declared.event.Event.{Event}
use Rattle.hunk_base.specs.declared.fault.Reason.TheVariants.{SiteOutside, SiteOverlap}
use Rattle.hunk_base.specs.declared.sites.SiteRefusal.{SiteRefusal}
use Rattle.hunk_base.specs.declared.sites.SiteRefusal.TheVariants.{Outside, Overlap}
use Rattle.hunk_base.specs.declared.sites.SiteRefusal.TheVariants as site_refusal_is
use Rattle.hunk_words.specs.declared.state.Expected.TheVariants.{Offset}
use Rattle.hunk_words.specs.declared.state.State.{State}
use Rattle.hunk_words.specs.declared.numbers.NumberRefusal.{NumberRefusal}
use Rattle.hunk_words.specs.declared.numbers.NumberRefusal.TheVariants.{Refused, OutOfMemory}

-- After these fields of a file the machine has come to this point, the state is what is expected
-- there, and the taker stands for the events.
pub record Reached (kind : FileKind) (Stands : List Event → Type 0) (state : State) (fs : List Field) (at : Progress) : Type 0 where
  pub taken : Takes (start_of kind ∷ []) fs at.stack
  pub seen : at.seen ≡ seen_all [] fs
  pub file : state.file ≡ kind
  pub stack : view state (sizes_told kind (events fs)) ≡ at.stack
  pub is_state : IsState state (sizes_told kind (events fs))
  pub stands : Stands (events fs)

-- the result of a number after these fields
abbrev pub NumberAnswered : FileKind → (List Event → Type 0) → List Field → Progress → ℕ → Result State NumberRefusal → Type 0
NumberAnswered kind Stands fs at n (Ok state) = (field_judged at n ≡ None) × Reached kind Stands state (fs ++ field (due at.stack) n ∷ []) (field_next at n)
NumberAnswered kind Stands fs at n (Err (Refused reason)) = field_judged at n ≡ Some reason
NumberAnswered kind Stands fs at n (Err OutOfMemory) = Unit {0}

-- why a number is refused whose site a taker refuses
abbrev pub site_refused : ℕ → SiteRefusal → NumberRefusal
site_refused n Outside = Refused (SiteOutside n)
site_refused n Overlap = Refused (SiteOverlap n)
site_refused n site_refusal_is.OutOfMemory = OutOfMemory

-- the state in a list of offsets to one hunk, with how many follow the next one
abbrev pub at_offset : State → ℕ → ℕ → State
at_offset state more target = record state { due = Offset more target }

-- a result that has this state where it is good
abbrev pub with_state : State → Result (Unit {0}) NumberRefusal → Result State NumberRefusal
with_state state (Ok done) = Ok state
with_state state (Err stop) = Err stop

-- a number that may come: it is not too wide, and there is room for its event
pub record MayCome (fs : List Field) (at : Progress) (n : ℕ) : Type 0 where
  pub fits : n < bound (width (due at.stack))
  pub few : length (events fs) < 2 ^ 29

-- the result of a longword after these fields
abbrev pub WordAnswered : FileKind → (List Event → Type 0) → List Field → Progress → ℕ → Result State NumberRefusal → Type 0
WordAnswered kind Stands fs at w (Ok state) = (next : Progress) × (read_word at w ≡ Ok next) × Reached kind Stands state (fs ++ word_labels (width (due at.stack)) at.stack w []) next
WordAnswered kind Stands fs at w (Err (Refused reason)) = read_word at w ≡ Err reason
WordAnswered kind Stands fs at w (Err OutOfMemory) = Unit {0}
