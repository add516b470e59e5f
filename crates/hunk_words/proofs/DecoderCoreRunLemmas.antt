-- A run of words: what a core stands for after many of them at once.
use Rattle.std.proofs.Common.{◌≡◌, ℕ, suc, ◌+◌, ◌-◌, ◌<◌, ◌≤◌, ◌^◌, List, [], ◌∷◌, ◌++◌, length, Some, None, Ok, refl, sym, ap, subst, append_assoc, false, arith}
use Rattle.std.proofs.lemmas.List.{append-nil}
use Rattle.hunk_base.specs.Longwords.{AllLong}
use Rattle.hunk_words.specs.Kinds.{is_half, width}
use Rattle.hunk_words.specs.Machine.{due}
use Rattle.hunk_words.specs.SiteRules.{limit_of, site_judged}
use Rattle.hunk_words.specs.Files.{most_longwords}
use Rattle.hunk_words.specs.Event.{events, word_events}
use Rattle.hunk_words.specs.Taker.{sizes_told}
use Rattle.hunk_words.specs.State.{Steps, IsState, SizesIn}
use Rattle.hunk_words.specs.Numbers.{WordAnswered}
use Rattle.hunk_words.specs.DecoderCore.{Behind, StandsBy, fields_read}
use Rattle.hunk_words.specs.declared.decoder_core.CoreState.{CoreState}
use Rattle.hunk_words.specs.declared.event.Event.{Event}
use Rattle.hunk_words.specs.declared.event.Event.TheVariants as event_is
use Rattle.hunk_words.specs.declared.event.FileKind.{FileKind}
use Rattle.hunk_words.specs.declared.event.FileKind.TheVariants.{Object, Load}
use Rattle.hunk_words.specs.declared.state.Expected.TheVariants.{Word}
use Rattle.hunk_words.specs.declared.state.State.{State}
use Rattle.hunk_words.specs.declared.state.Step.{Step}
use Rattle.hunk_words.specs.declared.state.AfterWords.{AfterWords}
use Rattle.hunk_words.proofs.NumbersLemmas.{number-taken}
use Rattle.hunk_words.proofs.NumbersWordLemmas.{MayCome-long, WordAnswered-long}
use Rattle.hunk_words.proofs.DecoderCoreLemmas.{StandsBy-taken, few-events, length-told-events}

pub word_events-append : (us vs : List ℕ) → word_events (us ++ vs) ≡ word_events us ++ word_events vs
word_events-append [] vs = refl
word_events-append (u ∷ us) vs = ap (λ es. event_is.Word u ∷ es) (word_events-append us vs)

pub length-word_events : (us : List ℕ) → length (word_events us) ≡ length us
length-word_events [] = refl
length-word_events (u ∷ us) = omega (arith, length-word_events us)

-- The taker may stand for the same events in another sense.
pub Behind-stands : (kind : FileKind) (Before After : List Event → Type 0) (s : CoreState) (ws : List ℕ) (b : Behind kind Before s ws) → After (events (fields_read kind ws)) → Behind kind After s ws
Behind-stands kind Before After s ws b stands = record {
  progress = b.progress;
  read = b.read;
  reached = record { taken = b.reached.taken; seen = b.reached.seen; file = b.reached.file; stack = b.reached.stack; is_state = b.reached.is_state; stands = stands };
  place = b.place;
  few = b.few;
  long = b.long;
}

-- these events alone
abbrev Are : List Event → List Event → Type 0
Are told es = es ≡ told

-- the core's state in a run of words
abbrev in_run : State → ℕ → AfterWords → ℕ → CoreState
in_run s more then place = record { state = record s { due = Word more then }; place = place; refusal = None }

-- ---- one word

same-sizes : (file : FileKind) (more left : ℕ) (then : AfterWords) (last hunk : ℕ) (sizes : List ℕ) → SizesIn file (Word more then) last hunk sizes → SizesIn file (Word left then) last hunk sizes
same-sizes Object more left then last hunk sizes known = known
same-sizes Load more left then last hunk sizes known = known

word-steps : (s : State) (more : ℕ) (then : AfterWords) (sizes : List ℕ) (w : ℕ) → IsState (record s { due = Word (suc more) then }) sizes
    → Steps (record s { due = Word (suc more) then }) sizes w (record { state = record s { due = Word more then }; event = Some (event_is.Word w) })
word-steps s more then sizes w is_state = record {
  passes = refl;
  tells = refl;
  goes = refl;
  same_file = refl;
  is_state = record { due_in = is_state.due_in; sizes_in = same-sizes s.file (suc more) more then s.last s.hunk sizes is_state.sizes_in };
}

word-behind : (kind : FileKind) (told : List Event) (s : State) (more : ℕ) (then : AfterWords) (place w : ℕ) (ws : List ℕ) → Behind kind (Are told) (in_run s (suc more) then place) ws
    → place < most_longwords → w < 2 ^ 32 → Behind kind (Are (told ++ event_is.Word w ∷ [])) (in_run s more then (place + 1)) (ws ++ w ∷ [])
word-behind kind told s more then place w ws b room fits =
    let before = in_run s (suc more) then place in
    let fs = fields_read kind ws in
    let After : List Event → Type 0 = Are (told ++ event_is.Word w ∷ []) in
    let is : is_half (width (due b.progress.stack)) ≡ false = ap (λ t. is_half (width (due t))) (sym b.reached.stack) in
    let few : length (events fs) + 1 < 2 ^ 29 = few-events kind (Are told) before ws b room in
    let after : State = record s { due = Word more then } in
    let step : Step = record { state = after; event = Some (event_is.Word w) } in
    let answered : WordAnswered kind After fs b.progress w (Ok after) =
    WordAnswered-long kind After fs b.progress w (Ok after) is
    (number-taken kind (Are told) After before.state fs b.progress w step b.reached (MayCome-long fs b.progress w is fits few)
    (word-steps s more then (sizes_told kind (events fs)) w b.reached.is_state) (ap (λ t. site_judged (limit_of (due t)) b.progress.seen w) (sym b.reached.stack)) (ap (λ es. es ++ event_is.Word w ∷ []) b.reached.stands)) in
    (StandsBy-taken kind (Are told) After before ws w after b room fits answered).good refl

-- ---- many words

run-behind : (us : List ℕ) (kind : FileKind) (told : List Event) (s : State) (more left : ℕ) (then : AfterWords) (place : ℕ) (ws : List ℕ) → Behind kind (Are told) (in_run s more then place) ws
    → more ≡ left + length us → place + length us ≤ most_longwords → AllLong us → Behind kind (Are (told ++ word_events us)) (in_run s left then (place + length us)) (ws ++ us)
run-behind [] kind told s more left then place ws b count room long =
    let same : more ≡ left = omega arith in
    let stay : place ≡ place + 0 = omega arith in
    subst (λ es. Behind kind (Are es) (in_run s left then (place + 0)) (ws ++ [])) (sym (append-nil told))
    (subst (λ us. Behind kind (Are told) (in_run s left then (place + 0)) us) (sym (append-nil ws))
    (subst (λ p. Behind kind (Are told) (in_run s left then p) ws) stay (subst (λ n. Behind kind (Are told) (in_run s n then place) ws) same b)))
run-behind (u ∷ us) kind told s more left then place ws b count room long =
    let first : more ≡ suc (left + length us) = omega arith in
    let next : Behind kind (Are (told ++ event_is.Word u ∷ [])) (in_run s (left + length us) then (place + 1)) (ws ++ u ∷ []) =
    word-behind kind told s (left + length us) then place u ws (subst (λ n. Behind kind (Are told) (in_run s n then place) ws) first b) (omega arith) long.0 in
    let rest = run-behind us kind (told ++ event_is.Word u ∷ []) s (left + length us) left then (place + 1) (ws ++ u ∷ []) next refl (omega arith) long.1 in
    let places : place + 1 + length us ≡ place + length (u ∷ us) = omega arith in
    subst (λ es. Behind kind (Are es) (in_run s left then (place + length (u ∷ us))) (ws ++ u ∷ us)) (append_assoc told (event_is.Word u ∷ []) (word_events us))
    (subst (λ vs. Behind kind (Are ((told ++ event_is.Word u ∷ []) ++ word_events us)) (in_run s left then (place + length (u ∷ us))) vs) (append_assoc ws (u ∷ []) us)
    (subst (λ p. Behind kind (Are ((told ++ event_is.Word u ∷ []) ++ word_events us)) (in_run s left then p) ((ws ++ u ∷ []) ++ us)) places rest))

-- a run that the taker took
pub StandsBy-run : (kind : FileKind) (Before After : List Event → Type 0) (s : State) (more count : ℕ) (then : AfterWords) (place : ℕ) (ws us : List ℕ) → StandsBy kind Before (in_run s more then place) ws
    → 0 < count → count ≤ more → place + count ≤ most_longwords → length us ≡ count → AllLong us
    → ((told : List Event) → Before told → length told + length us < 2 ^ 29 → After (told ++ word_events us))
    → StandsBy kind After (in_run s (more - count) then (place + count)) (ws ++ us)
StandsBy-run kind Before After s more count then place ws us stands some within room counted long takes =
    let b = stands.good refl in
    let told = events (fields_read kind ws) in
    let left : more ≡ more - count + length us = omega arith in
    let few : length told + length us < 2 ^ 29 = omega (arith, length-told-events kind Before (in_run s more then place) ws b) in
    let run = run-behind us kind told s more (more - count) then place ws (Behind-stands kind Before (Are told) _ ws b refl) left (omega arith) long in
    record {
      good = λ none. subst (λ n. Behind kind After (in_run s (more - count) then (place + n)) (ws ++ us)) counted
          (Behind-stands kind (Are (told ++ word_events us)) After _ (ws ++ us) run (subst After (sym run.reached.stands) (takes told b.reached.stands few)));
      faulty = λ fault is. absurd cc;
    }

-- a state in which a run of words is expected
pub StandsBy-due : (kind : FileKind) (Stands : List Event → Type 0) (s : CoreState) (more : ℕ) (then : AfterWords) (ws : List ℕ) → s.state.due ≡ Word more then → s.refusal ≡ None
    → StandsBy kind Stands s ws → StandsBy kind Stands (record { state = record s.state { due = Word more then }; place = s.place; refusal = None }) ws
StandsBy-due kind Stands s more then ws is none stands =
    subst (λ d. StandsBy kind Stands (record { state = record s.state { due = d }; place = s.place; refusal = None }) ws) is
    (subst (λ r. StandsBy kind Stands (record s { refusal = r }) ws) none stands)
