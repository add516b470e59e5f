-- The machine over longwords: where halves are expected, it takes the upper one before the lower
-- one.
use Rattle.std.specs.Prelude.{◌≡◌, ℕ, ◌+◌, ◌/◌, ◌%◌, ◌^◌, List, [], ◌∷◌, Option, Some, None, Result, Ok, Err}
use Rattle.hunk_words.specs.Kinds.{Width, Kind, Field, field, width}
use Rattle.hunk_words.specs.FaultTable.{Passes, judged, and_then}
use Rattle.hunk_words.specs.Kinds.Width.{long, half}
use Rattle.hunk_words.specs.Kinds.Kind.{object_start, load_start}
use Rattle.hunk_words.specs.Machine.{due, next}
use Rattle.hunk_words.specs.SiteRules.{limit_of, site_judged, seen_after}
use Rattle.hunk_words.specs.declared.event.FileKind.{FileKind}
use Rattle.hunk_words.specs.declared.event.FileKind.TheVariants.{Object, Load}
use Rattle.hunk_base.specs.declared.fault.Reason.{Reason}

abbrev pub word_next : Width → List Kind → ℕ → List Kind
word_next long stack w = next stack w
word_next (half h) stack w = next (next stack (w / 2 ^ 16)) (w % 2 ^ 16)

-- A longword passes: where halves are expected, the upper one before the lower one.
abbrev pub WordPasses : Width → List Kind → ℕ → Type 0
WordPasses long stack w = Passes (due stack) w
WordPasses (half h) stack w = Passes (due stack) (w / 2 ^ 16) × Passes (due (next stack (w / 2 ^ 16))) (w % 2 ^ 16)

-- From the first stack the machine reads the longwords and ends at the second.
abbrev pub Reads : List Kind → List ℕ → List Kind → Type 0
Reads stack [] after = stack ≡ after
Reads stack (w ∷ ws) after = WordPasses (width (due stack)) stack w × Reads (word_next (width (due stack)) stack w) ws after

-- a longword under the kind that is expected, or its halves under theirs
abbrev pub word_labels : Width → List Kind → ℕ → List Field → List Field
word_labels long stack w fs = field (due stack) w ∷ fs
word_labels (half h) stack w fs = field (due stack) (w / 2 ^ 16) ∷ field (due (next stack (w / 2 ^ 16))) (w % 2 ^ 16) ∷ fs

abbrev pub labels : List Kind → List ℕ → List Field
labels stack [] = []
labels stack (w ∷ ws) = word_labels (width (due stack)) stack w (labels (word_next (width (due stack)) stack w) ws)

-- ---- the machine with the rules for sites, a field at a time

-- what is expected, and the offsets of this hunk's sites so far
pub record Progress : Type 0 where
  pub stack : List Kind
  pub seen : List ℕ

abbrev pub field_judged : Progress → ℕ → Option Reason
field_judged progress n = and_then (judged (due progress.stack) n) (site_judged (limit_of (due progress.stack)) progress.seen n)

abbrev pub field_next : Progress → ℕ → Progress
field_next progress n = record { stack = next progress.stack n; seen = seen_after (due progress.stack) n progress.seen }

abbrev pub unless : Option Reason → Progress → Result Progress Reason
unless None further = Ok further
unless (Some r) further = Err r

abbrev pub field_step : Progress → ℕ → Result Progress Reason
field_step progress n = unless (field_judged progress n) (field_next progress n)

infixl 10 ◌>>=◌
abbrev pub ◌>>=◌ : {A B : Type 0} → Result A Reason → (A → Result B Reason) → Result B Reason
(Ok x) >>= f = f x
(Err e) >>= f = Err e

abbrev pub width_step : Width → Progress → ℕ → Result Progress Reason
width_step long progress w = field_step progress w
width_step (half h) progress w = field_step progress (w / 2 ^ 16) >>= λ further. field_step further (w % 2 ^ 16)

-- one longword: what is expected after it, or the reason
abbrev pub read_word : Progress → ℕ → Result Progress Reason
read_word progress w = width_step (width (due progress.stack)) progress w

-- what the machine makes of longwords: what is expected after them, or the place and the reason of
-- the first offence
abbrev pub read_words : Progress → ℕ → List ℕ → Result Progress (ℕ × Reason)
read_words progress p [] = Ok progress
read_words progress p (w ∷ ws) = elim (read_word progress w) [ Ok further ↦ read_words further (p + 1) ws | Err r ↦ Err (p, r) ]

-- what is expected at the start of a file of this kind
abbrev pub start_of : FileKind → Kind
start_of Object = object_start
start_of Load = load_start

abbrev pub initial_progress : FileKind → Progress
initial_progress kind = record { stack = start_of kind ∷ []; seen = [] }
