-- What a core stands for, after one more longword.
use Rattle.std.proofs.Common.{◌≡◌, ℕ, zero, suc, ◌+◌, ◌*◌, ◌<◌, ◌≤◌, ◌^◌, List, [], ◌∷◌, ◌++◌, length, Some, None, Result, Ok, Err, refl, sym, ap, subst, ◌∙◌, append_assoc, length-append, arith}
use Rattle.hunk_base.specs.Longwords.{AllLong}
use Rattle.hunk_words.specs.Kinds.{Width, Kind, Field, width}
use Rattle.hunk_words.specs.Kinds.Width.{long, half}
use Rattle.hunk_words.specs.Machine.{due, IsComplete}
use Rattle.hunk_words.specs.Reading.{Progress, Reads, start_of, initial_progress, word_next, read_word, read_words, word_labels, labels}
use Rattle.hunk_words.specs.Files.{Tree, spelling, IsFileOf, IsValidPrefix, most_longwords}
use Rattle.hunk_words.specs.FirstOffence.{OffendsAt, FirstOffence, end_reason}
use Rattle.hunk_words.specs.FirstOffence.FirstOffence.{end_offends}
use Rattle.hunk_words.specs.Event.{event_of, events}
use Rattle.hunk_words.specs.State.{IsState, view}
use Rattle.hunk_words.specs.Numbers.{Reached, WordAnswered}
use Rattle.hunk_words.specs.DecoderCore.{Behind, StandsBy, TellsFile, fields_read}
use Rattle.hunk_words.specs.declared.decoder_core.CoreState.{CoreState}
use Rattle.hunk_words.specs.declared.event.Event.{Event}
use Rattle.hunk_words.specs.declared.event.FileKind.{FileKind}
use Rattle.hunk_base.specs.declared.fault.Fault.{Fault}
use Rattle.hunk_base.specs.declared.fault.Reason.{Reason}
use Rattle.hunk_base.specs.declared.fault.Reason.TheVariants.{TooLarge, PartialLongword, UnexpectedEnd}
use Rattle.hunk_base.specs.declared.fault.Refusal.{Refusal}
use Rattle.hunk_base.specs.declared.fault.Refusal.TheVariants as refusal_is
use Rattle.hunk_words.specs.declared.state.State.{State}
use Rattle.hunk_words.proofs.ReadingProgressLemmas.{words-read}
use Rattle.hunk_words.proofs.FirstOffenceLemmas.{offends-at, too-long, ends-early}
use Rattle.hunk_words.proofs.FilesReadingLemmas.{complete-file, read-front}
use Rattle.hunk_words.proofs.FilesPrefixLemmas.{spelling-labels}
use Rattle.hunk_words.proofs.NumbersWordLemmas.{length-events_one}

-- ---- longwords that grow at their end

pub AllLong-append : (ws us : List ℕ) → AllLong ws → AllLong us → AllLong (ws ++ us)
AllLong-append [] us first rest = rest
AllLong-append (w ∷ ws) us first rest = (first.0, AllLong-append ws us first.1 rest)

word_labels-append : (v : Width) (s : List Kind) (w : ℕ) (fs gs : List Field) → word_labels v s w fs ++ gs ≡ word_labels v s w (fs ++ gs)
word_labels-append long s w fs gs = refl
word_labels-append (half h) s w fs gs = refl

pub labels-append : (ws us : List ℕ) (s e : List Kind) → Reads s ws e → labels s (ws ++ us) ≡ labels s ws ++ labels e us
labels-append [] us s e reads = ap (λ t. labels t us) reads
labels-append (w ∷ ws) us s e reads =
    let v = width (due s) in
    let after = word_next v s w in
    ap (λ fs. word_labels v s w fs) (labels-append ws us after e reads.1) ∙ sym (word_labels-append v s w (labels after ws) (labels e us))

-- what the machine makes of the longwords after the first
abbrev read_rest : Result Progress Reason → ℕ → List ℕ → Result Progress (ℕ × Reason)
read_rest r p ws = elim r [ Ok d ↦ read_words d (p + 1) ws | Err e ↦ Err (p, e) ]

rest-append : (r : Result Progress Reason) (p : ℕ) (ws us : List ℕ) (d : Progress) → ((c : Progress) → read_words c (p + 1) ws ≡ Ok d → read_words c (p + 1) (ws ++ us) ≡ read_words d (p + 1 + length ws) us)
    → read_rest r p ws ≡ Ok d → read_rest r p (ws ++ us) ≡ read_words d (p + 1 + length ws) us
rest-append (Ok c) p ws us d rest is = rest c is
rest-append (Err e) p ws us d rest is = absurd cc

pub read_words-append : (ws us : List ℕ) (c : Progress) (p : ℕ) (d : Progress) → read_words c p ws ≡ Ok d → read_words c p (ws ++ us) ≡ read_words d (p + length ws) us
read_words-append [] us c p d is =
    let same : c ≡ d = cc in
    let place : p + 0 ≡ p = omega arith in
    ap (λ x. read_words x p us) same ∙ ap (λ q. read_words d q us) (sym place)
read_words-append (w ∷ ws) us c p d is =
    let place : p + 1 + length ws ≡ p + length (w ∷ ws) = omega arith in
    rest-append (read_word c w) p ws us d (λ x. read_words-append ws us x (p + 1) d) is ∙ ap (λ q. read_words d q us) place

read_words-one : (d : Progress) (p w : ℕ) (r : Result Progress Reason) → read_word d w ≡ r → read_words d p (w ∷ []) ≡ read_rest r p []
read_words-one d p w r is = ap (λ x. read_rest x p []) is

-- ---- a fault that is kept

pub OffendsAt-append : (kind : FileKind) (ws more : List ℕ) (p : ℕ) (r : Reason) → OffendsAt kind ws p r → OffendsAt kind (ws ++ more) p r
OffendsAt-append kind ws more p r offends = record {
  front = offends.front;
  bad = offends.bad;
  behind = offends.behind ++ more;
  parts = ap (λ us. us ++ more) offends.parts ∙ append_assoc offends.front (offends.bad ∷ offends.behind) more;
  at_place = offends.at_place;
  good = offends.good;
  no_longer = offends.no_longer;
  blames = offends.blames;
}

-- what keeps an error stands for everything that comes
pub StandsBy-append : (kind : FileKind) (Stands : List Event → Type 0) (s : CoreState) (ws more : List ℕ) (refusal : Refusal) → s.refusal ≡ Some refusal
    → StandsBy kind Stands s ws → StandsBy kind Stands s (ws ++ more)
StandsBy-append kind Stands s ws more refusal keeps stands = record {
  good = λ none. absurd cc;
  faulty = λ fault is. OffendsAt-append kind ws more fault.place fault.reason (stands.faulty fault is);
}

-- ---- one more longword

pub StandsBy-taken : (kind : FileKind) (Before After : List Event → Type 0) (s : CoreState) (ws : List ℕ) (w : ℕ) (state : State) (b : Behind kind Before s ws)
    → s.place < most_longwords → w < 2 ^ 32 → WordAnswered kind After (fields_read kind ws) b.progress w (Ok state)
    → StandsBy kind After (record { state = state; place = s.place + 1; refusal = None }) (ws ++ w ∷ [])
StandsBy-taken kind Before After s ws w state b room fits answered =
    let read = words-read ws (initial_progress kind) 0 b.progress b.long b.read in
    let fields : fields_read kind (ws ++ w ∷ []) ≡ fields_read kind ws ++ word_labels (width (due b.progress.stack)) b.progress.stack w [] =
    labels-append ws (w ∷ []) (start_of kind ∷ []) b.progress.stack read.reads in
    record {
      good = λ none. record {
        progress = answered.0;
        read = read_words-append ws (w ∷ []) (initial_progress kind) 0 b.progress b.read ∙ read_words-one b.progress _ w (Ok answered.0) answered.1;
        reached = subst (λ fs. Reached kind After state fs answered.0) (sym fields) answered.2;
        place = omega (arith, b.place, length-append ws (w ∷ []));
        few = omega (arith, b.place, length-append ws (w ∷ []));
        long = AllLong-append ws (w ∷ []) b.long (fits, tt);
      };
      faulty = λ fault is. absurd cc;
    }

faulty-one : (kind : FileKind) (ws : List ℕ) (kept fault : Fault) → Some (refusal_is.Fault kept) ≡ Some (refusal_is.Fault fault) → OffendsAt kind ws kept.place kept.reason → OffendsAt kind ws fault.place fault.reason
faulty-one kind ws kept fault is offends = let same : kept ≡ fault = cc in subst (λ f. OffendsAt kind ws f.place f.reason) same offends

pub StandsBy-refused : (kind : FileKind) (Before After : List Event → Type 0) (s : CoreState) (ws : List ℕ) (w : ℕ) (reason : Reason) (b : Behind kind Before s ws)
    → s.place < most_longwords → w < 2 ^ 32 → read_word b.progress w ≡ Err reason
    → StandsBy kind After (record s { refusal = Some (refusal_is.Fault (record { place = s.place; reason = reason })) }) (ws ++ w ∷ [])
StandsBy-refused kind Before After s ws w reason b room fits refused =
    let read : read_words (initial_progress kind) 0 (ws ++ w ∷ []) ≡ Err (0 + length ws, reason) =
    read_words-append ws (w ∷ []) (initial_progress kind) 0 b.progress b.read ∙ read_words-one b.progress (0 + length ws) w (Err reason) refused in
    let place : 0 + length ws ≡ s.place = omega (arith, b.place) in
    record {
      good = λ none. absurd cc;
      faulty = λ fault is. faulty-one kind _ (record { place = s.place; reason = reason }) fault is
          (offends-at kind (ws ++ w ∷ []) s.place reason (AllLong-append ws (w ∷ []) b.long (fits, tt)) room (read ∙ ap (λ p. Err (p, reason)) place));
    }

pub StandsBy-too_large : (kind : FileKind) (Before After : List Event → Type 0) (s : CoreState) (ws : List ℕ) (w : ℕ) (b : Behind kind Before s ws)
    → most_longwords ≤ s.place
    → StandsBy kind After (record s { refusal = Some (refusal_is.Fault (record { place = s.place; reason = TooLarge })) }) (ws ++ w ∷ [])
StandsBy-too_large kind Before After s ws w b full =
    let whole : length ws ≡ most_longwords = omega (arith, b.place, b.few) in
    let place : most_longwords ≡ s.place = omega (arith, b.place, b.few) in
    record {
      good = λ none. absurd cc;
      faulty = λ fault is. faulty-one kind _ (record { place = s.place; reason = TooLarge }) fault is
          (subst (λ p. OffendsAt kind (ws ++ w ∷ []) p TooLarge) place (too-long kind ws [] w b.progress b.long whole b.read));
    }

-- ---- before the first longword

pub StandsBy-begun : (kind : FileKind) (Stands : List Event → Type 0) (state : State) → state.file ≡ kind → view state [] ≡ start_of kind ∷ [] → IsState state [] → Stands []
    → StandsBy kind Stands (record { state = state; place = 0; refusal = None }) []
StandsBy-begun kind Stands state file stack is_state stands = record {
  good = λ none. record {
    progress = initial_progress kind;
    read = refl;
    reached = record { taken = refl; seen = refl; file = file; stack = stack; is_state = is_state; stands = stands };
    place = refl;
    few = omega arith;
    long = tt;
  };
  faulty = λ fault is. absurd cc;
}

-- ---- room for events

length-word_labels : (v : Width) (s : List Kind) (w : ℕ) (fs : List Field) → length (word_labels v s w fs) ≤ length fs + 2
length-word_labels long s w fs = omega arith
length-word_labels (half h) s w fs = omega arith

length-labels : (ws : List ℕ) (s : List Kind) → length (labels s ws) ≤ 2 * length ws
length-labels [] s = omega arith
length-labels (w ∷ ws) s =
    let v = width (due s) in
    omega (arith, length-word_labels v s w (labels (word_next v s w) ws), length-labels ws (word_next v s w))

length-told : (fs : List Field) → length (events fs) ≤ length fs
length-told [] = omega arith
length-told (f ∷ fs) = omega (arith, length-events_one (event_of f) (events fs), length-told fs)

-- each longword has at most two events
pub length-told-events : (kind : FileKind) (Stands : List Event → Type 0) (s : CoreState) (ws : List ℕ) → Behind kind Stands s ws → length (events (fields_read kind ws)) ≤ 2 * s.place
length-told-events kind Stands s ws b = omega (arith, length-told (fields_read kind ws), length-labels ws (start_of kind ∷ []), b.place)

pub few-events : (kind : FileKind) (Stands : List Event → Type 0) (s : CoreState) (ws : List ℕ) → Behind kind Stands s ws → s.place < most_longwords
    → length (events (fields_read kind ws)) + 1 < 2 ^ 29
few-events kind Stands s ws b room = omega (arith, length-told-events kind Stands s ws b)

-- if no error is kept, the longwords are a valid prefix
pub StandsBy-front : (kind : FileKind) (Stands : List Event → Type 0) (s : CoreState) (ws : List ℕ) → s.refusal ≡ None → StandsBy kind Stands s ws → IsValidPrefix kind ws
StandsBy-front kind Stands s ws none stands = let b = stands.good none in read-front kind ws b.progress b.long b.few b.read

-- ---- the end

early : (kind : FileKind) (Stands : List Event → Type 0) (s : CoreState) (ws : List ℕ) (rest : ℕ) (b : Behind kind Stands s ws) → (rest ≡ 0 → IsComplete b.progress.stack → ⊥)
    → FirstOffence kind ws rest s.place (end_reason rest)
early kind Stands s ws rest b not_whole = subst (λ p. FirstOffence kind ws rest p (end_reason rest)) (sym b.place) (end_offends (ends-early kind ws rest b.progress b.long b.few b.read not_whole))

pub FirstOffence-partial : (kind : FileKind) (Stands : List Event → Type 0) (s : CoreState) (ws : List ℕ) (rest : ℕ) → Behind kind Stands s ws → 0 < rest → FirstOffence kind ws rest s.place PartialLongword
FirstOffence-partial kind Stands s ws zero b some = absurd (omega arith)
FirstOffence-partial kind Stands s ws (suc n) b some = early kind Stands s ws (suc n) b (λ none. absurd (omega arith))

pub FirstOffence-unexpected : (kind : FileKind) (Stands : List Event → Type 0) (s : CoreState) (ws : List ℕ) (rest : ℕ) (b : Behind kind Stands s ws) → rest ≡ 0 → (IsComplete b.progress.stack → ⊥)
    → FirstOffence kind ws rest s.place UnexpectedEnd
FirstOffence-unexpected kind Stands s ws zero b none not_whole = early kind Stands s ws zero b (λ is. not_whole)
FirstOffence-unexpected kind Stands s ws (suc n) b none not_whole = absurd (omega arith)

-- the events of a file are those of its fields as the machine reads them
told-file : (kind : FileKind) (tree : Tree kind) (ws : List ℕ) → IsFileOf kind tree ws → spelling kind tree ≡ fields_read kind ws
told-file kind tree ws is_file = spelling-labels kind tree is_file.fits ∙ ap (fields_read kind) is_file.spelled

pub TellsFile-complete : (kind : FileKind) (Stands : List Event → Type 0) (s : CoreState) (ws : List ℕ) (b : Behind kind Stands s ws) → IsComplete b.progress.stack → TellsFile kind Stands ws
TellsFile-complete kind Stands s ws b complete =
    let f = complete-file kind ws b.progress b.long b.few b.read complete in record {
      tree = f.tree;
      is_file = f.is_file;
      stands = subst (λ fs. Stands (events fs)) (sym (told-file kind f.tree ws f.is_file)) b.reached.stands;
    }
