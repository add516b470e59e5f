-- One more offset of a list of relocations to one hunk.
use Rattle.std.proofs.Common.{◌≡◌, ℕ, suc, ◌+◌, ◌<◌, ◌^◌, false, List, [], ◌∷◌, ◌++◌, length, Some, Ok, Err, refl, sym, ap}
use Rattle.hunk_words.specs.Kinds.{Field, is_half, width}
use Rattle.hunk_words.specs.Machine.{due}
use Rattle.hunk_words.specs.SiteRules.{limit_of}
use Rattle.hunk_words.specs.Reading.{Progress}
use Rattle.hunk_words.specs.Event.{events}
use Rattle.hunk_words.specs.Taker.{Judges, context_of, sizes_told}
use Rattle.hunk_words.specs.State.{Steps, IsState, SizesIn}
use Rattle.hunk_words.specs.Numbers.{Reached, NumberAnswered, WordAnswered, at_offset, site_refused}
use Rattle.hunk_words.specs.declared.event.Event.{Event}
use Rattle.hunk_words.specs.declared.event.Event.TheVariants.{Site}
use Rattle.hunk_words.specs.declared.event.FileKind.{FileKind}
use Rattle.hunk_words.specs.declared.event.FileKind.TheVariants.{Object, Load}
use Rattle.hunk_base.specs.declared.fault.Reason.TheVariants.{SiteOutside, SiteOverlap}
use Rattle.hunk_base.specs.declared.sites.SiteRefusal.{SiteRefusal}
use Rattle.hunk_base.specs.declared.sites.SiteRefusal.TheVariants.{Outside, Overlap, OutOfMemory}
use Rattle.hunk_words.specs.declared.state.Expected.TheVariants.{Offset}
use Rattle.hunk_words.specs.declared.state.State.{State}
use Rattle.hunk_words.specs.declared.state.Step.{Step}
use Rattle.hunk_words.proofs.NumbersLemmas.{SiteAnswered, number-taken, number-answered, site-refused}
use Rattle.hunk_words.proofs.NumbersWordLemmas.{MayCome-long, WordAnswered-long}

-- a number whose site a taker refuses
pub site-stops : (kind : FileKind) (Before After : List Event → Type 0) (s : State) (fs : List Field) (at : Progress) (n : ℕ) (step : Step) (refusal : SiteRefusal) → Reached kind Before s fs at
    → Steps s (sizes_told kind (events fs)) n step → SiteAnswered (limit_of (due at.stack)) at.seen n (Err refusal) → NumberAnswered kind After fs at n (Err (site_refused n refusal))
site-stops kind Before After s fs at n step Outside reached steps answered = site-refused kind Before s fs at n step (SiteOutside n) reached steps answered
site-stops kind Before After s fs at n step Overlap reached steps answered = site-refused kind Before s fs at n step (SiteOverlap n) reached steps answered
site-stops kind Before After s fs at n step OutOfMemory reached steps answered = tt

same-sizes : (file : FileKind) (more left target last hunk : ℕ) (sizes : List ℕ) → SizesIn file (Offset more target) last hunk sizes → SizesIn file (Offset left target) last hunk sizes
same-sizes Object more left target last hunk sizes known = known
same-sizes Load more left target last hunk sizes known = known

-- the step over an offset
abbrev offset_step : State → ℕ → ℕ → ℕ → Step
offset_step s more target w = record { state = at_offset s more target; event = Some (Site w target) }

offset-steps : (s : State) (more target : ℕ) (sizes : List ℕ) (w : ℕ) → IsState (at_offset s (suc more) target) sizes → Steps (at_offset s (suc more) target) sizes w (offset_step s more target w)
offset-steps s more target sizes w is_state = record {
  passes = refl;
  tells = refl;
  goes = refl;
  same_file = refl;
  is_state = record { due_in = is_state.due_in; sizes_in = same-sizes s.file (suc more) more target s.last s.hunk sizes is_state.sizes_in };
}

is-long : (kind : FileKind) (Stands : List Event → Type 0) (s : State) (more target : ℕ) (fs : List Field) (at : Progress) → Reached kind Stands (at_offset s more target) fs at → is_half (width (due at.stack)) ≡ false
is-long kind Stands s more target fs at reached = ap (λ t. is_half (width (due t))) (sym reached.stack)

-- an offset that the taker takes
pub offset-taken : (kind : FileKind) (Before After : List Event → Type 0) (s : State) (more target : ℕ) (fs : List Field) (at : Progress) (w : ℕ) (done : Unit {0})
    → Reached kind Before (at_offset s (suc more) target) fs at → length (events fs) + 1 < 2 ^ 29 → w < 2 ^ 32
    → Judges (context_of kind (events fs)) (Site w target) (Ok done) → After (events fs ++ Site w target ∷ []) → WordAnswered kind After fs at w (Ok (at_offset s more target))
offset-taken kind Before After s more target fs at w done reached few fits judges stands =
    let before = at_offset s (suc more) target in
    let step = offset_step s more target w in
    let is = is-long kind Before s (suc more) target fs at reached in
    let steps = offset-steps s more target (sizes_told kind (events fs)) w reached.is_state in
    WordAnswered-long kind After fs at w (Ok step.state) is
    (number-taken kind Before After before fs at w step reached (MayCome-long fs at w is fits few) steps (number-answered kind Before before fs at w step (Ok done) reached steps judges) stands)

-- an offset that the taker refuses
pub offset-refused : (kind : FileKind) (Before After : List Event → Type 0) (s : State) (more target : ℕ) (fs : List Field) (at : Progress) (w : ℕ) (refusal : SiteRefusal)
    → Reached kind Before (at_offset s (suc more) target) fs at → Judges (context_of kind (events fs)) (Site w target) (Err refusal) → WordAnswered kind After fs at w (Err (site_refused w refusal))
offset-refused kind Before After s more target fs at w refusal reached judges =
    let before = at_offset s (suc more) target in
    let step = offset_step s more target w in
    let steps = offset-steps s more target (sizes_told kind (events fs)) w reached.is_state in
    WordAnswered-long kind After fs at w (Err (site_refused w refusal)) (is-long kind Before s (suc more) target fs at reached)
    (site-stops kind Before After before fs at w step refusal reached steps (number-answered kind Before before fs at w step (Err refusal) reached steps judges))
