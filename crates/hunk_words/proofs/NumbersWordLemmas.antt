-- One more longword: one number, or two halves.
use Rattle.std.proofs.Common.{◌≡◌, ℕ, ◌+◌, ◌<◌, ◌≤◌, ◌/◌, ◌%◌, ◌^◌, Bool, true, false, List, [], ◌∷◌, ◌++◌, length, Option, Some, None, Result, Ok, Err, refl, sym, ap, subst, ◌∙◌, append_assoc, length-append, arith}
use Rattle.hunk_words.specs.Kinds.{Width, Field, field, width, bound, is_half}
use Rattle.hunk_words.specs.Kinds.Width.{long, half}
use Rattle.hunk_words.specs.Machine.{due, next}
use Rattle.hunk_words.specs.Reading.{Progress, field_judged, field_next, field_step, unless, width_step, word_labels, ◌>>=◌}
use Rattle.hunk_words.specs.Event.{event_of, events, with_event}
use Rattle.hunk_words.specs.Taker.{sizes_told}
use Rattle.hunk_words.specs.State.{around, expected_view}
use Rattle.hunk_words.specs.Numbers.{Reached, MayCome, NumberAnswered, WordAnswered}
use Rattle.hunk_words.specs.declared.event.Event.{Event}
use Rattle.hunk_words.specs.declared.event.FileKind.{FileKind}
use Rattle.hunk_base.specs.declared.fault.Reason.{Reason}
use Rattle.hunk_words.specs.declared.numbers.NumberRefusal.{NumberRefusal}
use Rattle.hunk_words.specs.declared.numbers.NumberRefusal.TheVariants.{Refused, OutOfMemory}
use Rattle.hunk_words.specs.declared.state.State.{State}
use Rattle.hunk_words.proofs.NumbersLemmas.{events-append}

-- a field has at most one event
pub length-events_one : (o : Option Event) (es : List Event) → length (with_event o es) ≤ length es + 1
length-events_one None es = omega arith
length-events_one (Some e) es = omega arith

pub length-events : (fs : List Field) (f : Field) → length (events (fs ++ f ∷ [])) ≤ length (events fs) + 1
length-events fs f = rw events-append (omega (arith, length-append (events fs) (events (f ∷ [])), length-events_one (event_of f) []))

-- ---- a whole longword

long-of : (v : Width) → is_half v ≡ false → v ≡ long
long-of long is = refl
long-of (half h) is = absurd cc

pub MayCome-long : (fs : List Field) (at : Progress) (w : ℕ) → is_half (width (due at.stack)) ≡ false → w < 2 ^ 32 → length (events fs) + 1 < 2 ^ 29 → MayCome fs at w
MayCome-long fs at w is fits few = record { fits = subst (λ v. w < bound v) (sym (long-of _ is)) fits; few = omega arith }

long-answered : (kind : FileKind) (Stands : List Event → Type 0) (fs : List Field) (at : Progress) (w : ℕ) (answer : Result State NumberRefusal) → width (due at.stack) ≡ long
    → NumberAnswered kind Stands fs at w answer → WordAnswered kind Stands fs at w answer
long-answered kind Stands fs at w (Ok s) is answered = (
  field_next at w,
  ap (λ v. width_step v at w) is ∙ ap (λ o. unless o (field_next at w)) answered.0,
  subst (λ v. Reached kind Stands s (fs ++ word_labels v at.stack w []) (field_next at w)) (sym is) answered.1,
)
long-answered kind Stands fs at w (Err (Refused reason)) is answered = ap (λ v. width_step v at w) is ∙ ap (λ o. unless o (field_next at w)) answered
long-answered kind Stands fs at w (Err OutOfMemory) is answered = tt

pub WordAnswered-long : (kind : FileKind) (Stands : List Event → Type 0) (fs : List Field) (at : Progress) (w : ℕ) (answer : Result State NumberRefusal) → is_half (width (due at.stack)) ≡ false
    → NumberAnswered kind Stands fs at w answer → WordAnswered kind Stands fs at w answer
WordAnswered-long kind Stands fs at w answer is answered = long-answered kind Stands fs at w answer (long-of _ is) answered

-- ---- two halves

pub MayCome-upper : (v : Width) (fs : List Field) (at : Progress) (w : ℕ) → width (due at.stack) ≡ v → is_half v ≡ true → w < 2 ^ 32 → length (events fs) + 1 < 2 ^ 29 → MayCome fs at (w / 2 ^ 16)
MayCome-upper long fs at w is half_is fits few = absurd cc
MayCome-upper (half h) fs at w is half_is fits few = record { fits = subst (λ v. w / 2 ^ 16 < bound v) (sym is) (omega arith); few = omega arith }

low-fits : (v : Width) (w : ℕ) → w % 2 ^ 16 < bound v
low-fits long w = omega arith
low-fits (half h) w = omega arith

pub MayCome-lower : (fs : List Field) (f : Field) (at : Progress) (w : ℕ) → length (events fs) + 1 < 2 ^ 29 → MayCome (fs ++ f ∷ []) at (w % 2 ^ 16)
MayCome-lower fs f at w few = record { fits = low-fits _ w; few = omega (arith, length-events fs f) }

-- the step over two halves, with the upper one judged
upper-step : (v : Width) (at : Progress) (w : ℕ) (o : Option Reason) → is_half v ≡ true → field_judged at (w / 2 ^ 16) ≡ o
    → width_step v at w ≡ (unless o (field_next at (w / 2 ^ 16)) >>= λ lower. field_step lower (w % 2 ^ 16))
upper-step long at w o is judged = absurd cc
upper-step (half h) at w o is judged = ap (λ p. unless p (field_next at (w / 2 ^ 16)) >>= λ lower. field_step lower (w % 2 ^ 16)) judged

two-labels : (v : Width) (fs : List Field) (at : Progress) (w : ℕ) → is_half v ≡ true
    → (fs ++ field (due at.stack) (w / 2 ^ 16) ∷ []) ++ field (due (next at.stack (w / 2 ^ 16))) (w % 2 ^ 16) ∷ [] ≡ fs ++ word_labels v at.stack w []
two-labels long fs at w is = absurd cc
two-labels (half h) fs at w is = append_assoc fs _ _

pub WordAnswered-halves : (kind : FileKind) (Stands : List Event → Type 0) (fs : List Field) (at : Progress) (w : ℕ) (answer : Result State NumberRefusal) → is_half (width (due at.stack)) ≡ true
    → field_judged at (w / 2 ^ 16) ≡ None
    → NumberAnswered kind Stands (fs ++ field (due at.stack) (w / 2 ^ 16) ∷ []) (field_next at (w / 2 ^ 16)) (w % 2 ^ 16) answer → WordAnswered kind Stands fs at w answer
WordAnswered-halves kind Stands fs at w (Ok s) is passes answered =
    let lower = field_next at (w / 2 ^ 16) in (
      field_next lower (w % 2 ^ 16),
      upper-step _ at w None is passes ∙ ap (λ o. unless o (field_next lower (w % 2 ^ 16))) answered.0,
      subst (λ gs. Reached kind Stands s gs (field_next lower (w % 2 ^ 16))) (two-labels _ fs at w is) answered.1,
    )
WordAnswered-halves kind Stands fs at w (Err (Refused reason)) is passes answered =
    let lower = field_next at (w / 2 ^ 16) in
    upper-step _ at w None is passes ∙ ap (λ o. unless o (field_next lower (w % 2 ^ 16))) answered
WordAnswered-halves kind Stands fs at w (Err OutOfMemory) is passes answered = tt

-- what is expected is as wide as the state says
pub is_half-reached : (kind : FileKind) (Stands : List Event → Type 0) (s : State) (fs : List Field) (at : Progress) (b : Bool) → Reached kind Stands s fs at
    → b ≡ is_half (width (due (expected_view s.due (around s (sizes_told kind (events fs)))))) → is_half (width (due at.stack)) ≡ b
is_half-reached kind Stands s fs at b reached is = ap (λ t. is_half (width (due t))) (sym reached.stack) ∙ sym is
