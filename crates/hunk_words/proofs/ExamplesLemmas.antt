-- What the machine computes for a worked file is what the definitions say about it.
use Rattle.std.proofs.Common.{◌≡◌, ℕ, ◌^◌, ◌<◌, ◌≤◌, List, [], ◌∷◌, length, Bool, true, false, ◌&&◌, nat_lt, nat_le, Ok, Err, refl, ap, sym, ◌∙◌, arith}
use Rattle.std.proofs.lemmas.Bool.Decides.{nat_tests}
use Rattle.hunk_base.specs.Longwords.{AllLong}
use Rattle.hunk_words.specs.Kinds.Kind.{object_start, load_start}
use Rattle.hunk_words.specs.Event.{events}
use Rattle.hunk_words.specs.EventValue.{value_of_events, initial_object, initial_load}
use Rattle.hunk_words.specs.Examples.{OffendsFirst, TellsUnits, TellsHunks}
use Rattle.hunk_words.specs.Files.{IsFile, most_longwords}
use Rattle.hunk_words.specs.FirstOffence.FirstOffence.{longword_offends, end_offends}
use Rattle.hunk_words.specs.Machine.{IsComplete}
use Rattle.hunk_words.specs.Reading.{Progress, initial_progress, labels, read_words}
use Rattle.hunk_words.specs.Values.{Hunk, Part}
use Rattle.hunk_words.specs.declared.event.FileKind.{FileKind}
use Rattle.hunk_words.specs.declared.event.FileKind.TheVariants.{Object, Load}
use Rattle.hunk_base.specs.declared.fault.Reason.{Reason}
use Rattle.hunk_base.specs.declared.fault.Reason.TheVariants.{UnexpectedEnd}
use Rattle.hunk_words.proofs.EventValueTreeLemmas.{object-told, load-told}
use Rattle.hunk_words.proofs.FilesReadingLemmas.{complete-file}
use Rattle.hunk_words.proofs.FirstOffenceLemmas.{ends-early, offends-at}
use Rattle.hunk_words.proofs.ReadingSameLemmas.{object-labels, load-labels}

-- ---- checks that compute

abbrev pub all_long : List ℕ → Bool
all_long [] = true
all_long (w ∷ ws) = nat_lt w (2 ^ 32) && all_long ws

abbrev pub fits : List ℕ → Bool
fits ws = nat_le (length ws) most_longwords

and-first : (a b : Bool) → (a && b) ≡ true → a ≡ true
and-first true b e = refl
and-first false b e = e

and-second : (a b : Bool) → (a && b) ≡ true → b ≡ true
and-second true b e = e
and-second false b e = absurd (cc)

is-below : (a b : ℕ) → nat_lt a b ≡ true → a < b
is-below a b e = grind (arith, nat_tests)

is-within : (a b : ℕ) → nat_le a b ≡ true → a ≤ b
is-within a b e = grind (arith, nat_tests)

long-all : (ws : List ℕ) → all_long ws ≡ true → AllLong ws
long-all [] e = tt
long-all (w ∷ ws) e = (is-below w (2 ^ 32) (and-first (nat_lt w (2 ^ 32)) (all_long ws) e), long-all ws (and-second (nat_lt w (2 ^ 32)) (all_long ws) e))

-- what the machine comes to, if it does not stop
abbrev pub reached : FileKind → List ℕ → Progress
reached kind ws = elim (read_words (initial_progress kind) 0 ws) [ Ok d ↦ d | Err stop ↦ initial_progress kind ]

-- ---- files, and first offences

pub is-file : (kind : FileKind) (ws : List ℕ) → all_long ws ≡ true → fits ws ≡ true → read_words (initial_progress kind) 0 ws ≡ Ok (reached kind ws) → IsComplete (reached kind ws).stack → IsFile kind ws
is-file kind ws long short reads complete = complete-file kind ws (reached kind ws) (long-all ws long) (is-within (length ws) most_longwords short) reads complete

pub ends-first : (kind : FileKind) (ws : List ℕ) → all_long ws ≡ true → fits ws ≡ true → read_words (initial_progress kind) 0 ws ≡ Ok (reached kind ws) → (IsComplete (reached kind ws).stack → ⊥) → OffendsFirst kind ws (length ws) UnexpectedEnd
ends-first kind ws long short reads not = end_offends (ends-early kind ws 0 (reached kind ws) (long-all ws long) (is-within (length ws) most_longwords short) reads (λ zero complete. not complete))

pub offends-first : (kind : FileKind) (ws : List ℕ) (place : ℕ) (r : Reason) → all_long ws ≡ true → nat_lt place most_longwords ≡ true → read_words (initial_progress kind) 0 ws ≡ Err (place, r) → OffendsFirst kind ws place r
offends-first kind ws place r long within stops = longword_offends (offends-at kind ws place r (long-all ws long) (is-below place most_longwords within) stops)

-- ---- values

pub tells-units : (ws : List ℕ) (units : List Part) → all_long ws ≡ true → fits ws ≡ true → read_words (initial_progress Object) 0 ws ≡ Ok (reached Object ws) → IsComplete (reached Object ws).stack
    → (value_of_events initial_object (events (labels (object_start ∷ []) ws))).parts ≡ units → TellsUnits ws units
tells-units ws units long short reads complete is =
    let file = is-file Object ws long short reads complete in
    record {
      tree = file.tree;
      is_file = file.is_file;
      value =
          sym (object-told file.tree file.is_file.fits)
          ∙ (ap (λ fs. (value_of_events initial_object (events fs)).parts) (sym (object-labels file.tree file.is_file.fits) ∙ ap (λ us. labels (object_start ∷ []) us) file.is_file.spelled)
          ∙ is);
    }

-- the hunks of the first part
abbrev first_hunks : List Part → List Hunk
first_hunks [] = []
first_hunks (p ∷ ps) = p.hunks

pub tells-hunks : (ws : List ℕ) (sizes : List (ℕ × ℕ)) (hunks : List Hunk) → all_long ws ≡ true → fits ws ≡ true → read_words (initial_progress Load) 0 ws ≡ Ok (reached Load ws) → IsComplete (reached Load ws).stack
    → (value_of_events initial_load (events (labels (load_start ∷ []) ws))).sizes ≡ sizes
    → (value_of_events initial_load (events (labels (load_start ∷ []) ws))).parts ≡ record { name = []; hunks = hunks } ∷ [] → TellsHunks ws sizes hunks
tells-hunks ws sizes hunks long short reads complete header is =
    let file = is-file Load ws long short reads complete in
    let told = load-told file.tree file.is_file.fits in
    let same = sym (load-labels file.tree file.is_file.fits) ∙ ap (λ us. labels (load_start ∷ []) us) file.is_file.spelled in
    record {
      tree = file.tree;
      is_file = file.is_file;
      header = sym told.0 ∙ (ap (λ fs. (value_of_events initial_load (events fs)).sizes) same ∙ header);
      value = ap (λ ps. first_hunks ps) (sym told.1 ∙ (ap (λ fs. (value_of_events initial_load (events fs)).parts) same ∙ is));
    }
