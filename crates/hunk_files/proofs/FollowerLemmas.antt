-- What a follower stands for, after more bytes, and where its longwords offend.
use Rattle.std.proofs.Common.{◌≡◌, ℕ, ◌+◌, ◌*◌, ◌<◌, ◌≤◌, ◌^◌, List, [], ◌∷◌, ◌++◌, length, Bool, true, false, IsTrue, Option, Some, None, suc, length-append, refl, sym, ap, subst, ◌∙◌, append_assoc, arith}
use Rattle.hunk_words.specs.Decoder.{RefusesBytes}
use Rattle.hunk_words.specs.Due.{Dues}
use Rattle.hunk_words.specs.Files.{IsValidPrefix, most_longwords}
use Rattle.hunk_words.specs.FirstOffence.{FirstOffence, OffendsAt}
use Rattle.hunk_words.specs.FirstOffence.FirstOffence.{longword_offends, end_offends}
use Rattle.hunk_base.specs.Longwords.{longwords, unfinished}
use Rattle.hunk_words.specs.declared.event.Event.{Event}
use Rattle.hunk_words.specs.declared.event.FileKind.{FileKind}
use Rattle.hunk_words.specs.declared.event.FileKind.TheVariants.{Object, Load}
use Rattle.hunk_base.specs.declared.fault.Fault.{Fault}
use Rattle.hunk_base.specs.declared.fault.Reason.{Reason}
use Rattle.hunk_base.specs.declared.fault.Refusal.{Refusal}
use Rattle.hunk_base.specs.declared.fault.Refusal.TheVariants as refusal_is
use Rattle.hunk_words.proofs.DecoderCoreLemmas.{StandsBy-append, StandsBy-front}
use Rattle.hunk_words.proofs.FilesReadingLemmas.{front-front}
use Rattle.hunk_words.proofs.FirstOffenceLemmas.{file-no-offence, first-one}
use Rattle.hunk_base.proofs.LongwordsLemmas.{length-longwords, length-unfinished, longwords-append}
use Rattle.hunk_files.specs.Explanation.{EndsWith, Explains, Follows, IsEnd, IsExplained}
use Rattle.hunk_files.specs.FileDecoder.{IsFileOf, inner}
use Rattle.hunk_files.specs.declared.file_decoder.File.{File}
use Rattle.hunk_files.specs.declared.file_decoder.File.TheVariants as file_is
use Rattle.hunk_files.specs.Follower.{FollowsWords, StandsFor, refusal_of}
use Rattle.hunk_files.specs.Path.{IsPathOf, blocks_begun}
use Rattle.hunk_files.specs.declared.explanation.Explanation.{Explanation}
use Rattle.hunk_files.specs.declared.explanation.Found.{Found}
use Rattle.hunk_files.specs.declared.explanation.Found.TheVariants as found_is
use Rattle.hunk_files.specs.declared.follower.Follower.{Follower}
use Rattle.hunk_files.proofs.PathLemmas.{length-blocks-le}

pub keeps-one : {A : Type 0} (o : Option A) (a : A) → o ≡ None → o ≡ Some a → ⊥
keeps-one {A = A} o a none some = let both : ◌≡◌ {A = Option A} None (Some a) = sym none ∙ some in absurd cc

-- what keeps an error stands for everything that comes
FollowsWords-append : {T : Type 0} (kind : FileKind) (stands_for : T → List Event → Type 0) (f : Follower T) (ws more : List ℕ) (refusal : Refusal) → refusal_of f ≡ Some refusal
    → FollowsWords kind stands_for f ws → FollowsWords kind stands_for f (ws ++ more)
FollowsWords-append kind stands_for f ws more refusal keeps stands = record {
  core = StandsBy-append kind (stands_for f.core.taker) f.core.state ws more refusal keeps stands.core;
  path = λ none. absurd (keeps-one (refusal_of f) refusal none keeps);
  stopped = λ fault is.
      let at = stands.stopped fault is in record {
        front = at.front;
        behind = at.behind ++ more;
        parts = ap (λ xs. xs ++ more) at.parts ∙ append_assoc at.front (f.last ∷ at.behind) more;
        at_place = at.at_place;
        due = at.due;
        path = at.path;
      };
}

pub StandsFor-append : {T : Type 0} (kind : FileKind) (stands_for : T → List Event → Type 0) (f : Follower T) (bytes more : List ℕ) (refusal : Refusal) → refusal_of f ≡ Some refusal
    → StandsFor kind stands_for f bytes → StandsFor kind stands_for f (bytes ++ more)
StandsFor-append kind stands_for f bytes more refusal keeps stands = record {
  held = λ none. absurd (keeps-one (refusal_of f) refusal none keeps);
  words = rw longwords-append (FollowsWords-append kind stands_for f (longwords bytes) _ refusal keeps stands.words);
}

-- ---- if no error is kept

pub front-valid : {T : Type 0} (kind : FileKind) (stands_for : T → List Event → Type 0) (f : Follower T) (ws : List ℕ) → refusal_of f ≡ None → FollowsWords kind stands_for f ws → IsValidPrefix kind ws
front-valid kind stands_for f ws none stands = StandsBy-front kind (stands_for f.core.taker) f.core.state ws none stands.core

pub blocks-few : {T : Type 0} (kind : FileKind) (stands_for : T → List Event → Type 0) (f : Follower T) (ws : List ℕ) → refusal_of f ≡ None → FollowsWords kind stands_for f ws → length (blocks_begun kind ws) < 2 ^ 29
blocks-few kind stands_for f ws none stands =
    let b = stands.core.good none in
    let le = length-blocks-le kind ws in
    omega (arith, b.few, le)

pub StandsFor-bounded : {T : Type 0} (kind : FileKind) (stands_for : T → List Event → Type 0) (f : Follower T) (bytes : List ℕ) → refusal_of f ≡ None → StandsFor kind stands_for f bytes → length bytes < 2 ^ 30 + 4
StandsFor-bounded kind stands_for f bytes none stands =
    let b = stands.words.core.good none in
    omega (arith, length-longwords bytes, length-unfinished bytes, b.few)

-- what it keeps is the first offence
pub StandsFor-refused : {T : Type 0} (kind : FileKind) (stands_for : T → List Event → Type 0) (f : Follower T) (bytes : List ℕ) (refusal : Refusal) → refusal_of f ≡ Some refusal → StandsFor kind stands_for f bytes → RefusesBytes kind bytes refusal
StandsFor-refused kind stands_for f bytes (refusal_is.Fault fault) keeps stands = stands.words.core.faulty fault keeps
StandsFor-refused kind stands_for f bytes refusal_is.OutOfMemory keeps stands = tt

-- a valid prefix offends at its end
pub offends-end : (kind : FileKind) (ws : List ℕ) (rest place : ℕ) (r : Reason) → IsValidPrefix kind ws → FirstOffence kind ws rest place r → place ≡ length ws
offends-end kind ws rest place r good (longword_offends o) =
    absurd (o.no_longer (front-front kind (o.front ++ (o.bad ∷ [])) o.behind (subst (λ xs. IsValidPrefix kind xs) (o.parts ∙ sym (append_assoc o.front (o.bad ∷ []) o.behind)) good)))
offends-end kind ws rest place r good (end_offends e) = e.at_place

-- ---- what is told

place-few : (kind : FileKind) (ws : List ℕ) (rest place : ℕ) (r : Reason) → FirstOffence kind ws rest place r → place ≤ most_longwords
place-few kind ws rest place r (longword_offends o) = omega (arith, o.at_place, o.good.short_enough)
place-few kind ws rest place r (end_offends e) = omega (arith, e.at_place, e.good.short_enough)

-- an explanation of these parts
pub Explains-of : (kind : FileKind) (bytes : List ℕ) (e : Explanation) (fault : Fault) (front : List ℕ) → e.fault ≡ fault → (fault.place ≤ 2 ^ 28 → e.offset ≡ 4 * fault.place)
    → FirstOffence kind (longwords bytes) (length (unfinished bytes)) fault.place fault.reason → fault.place ≡ length front → Follows front (longwords bytes) (length (unfinished bytes)) e.found → Dues kind front e.due
    → IsPathOf e.path (blocks_begun kind front) → Explains kind e bytes
Explains-of kind bytes e fault front same offset offends place found due path =
    let few = place-few kind (longwords bytes) (length (unfinished bytes)) fault.place fault.reason offends in
    let at : e.fault.place ≡ fault.place = ap (λ f. f.place) same in
    record {
      offends = subst (λ f. FirstOffence kind (longwords bytes) (length (unfinished bytes)) f.place f.reason) (sym same) offends;
      front = front;
      at_place = at ∙ place;
      at_byte = let four : e.offset ≡ 4 * fault.place = offset few in omega (arith, four, place);
      found = found;
      due = due;
      path = path;
    }

-- ---- where reading ends

module _ (kind : FileKind) (bytes : List ℕ) (fault : Fault) (offends : OffendsAt kind (longwords bytes) fault.place fault.reason) where
  end-not-found : (e : Explanation) (front : List ℕ) (found : Found) → FirstOffence kind (longwords bytes) (length (unfinished bytes)) e.fault.place e.fault.reason → e.fault.place ≡ length front
      → Follows front (longwords bytes) (length (unfinished bytes)) found → IsEnd found → ⊥
  end-not-found e front (found_is.Longword word) first place found at_end = at_end
  end-not-found e front (found_is.End count) first place found at_end =
      let one = first-one kind (longwords bytes) (length (unfinished bytes)) e.fault.place fault.place e.fault.reason fault.reason first (longword_offends offends) in
      let all : length (longwords bytes) ≡ length offends.front + suc (length offends.behind) = ap (λ xs. length xs) offends.parts ∙ length-append offends.front (offends.bad ∷ offends.behind) in
      omega (arith, one.0, offends.at_place, place, all, ap (λ xs. length xs) found.0)

  -- what offends at a longword is no file, and its end is not found
  ends-with : (given : Option Explanation) (ended : Bool) → IsExplained kind given bytes → EndsWith given ended
  ends-with None ended told = absurd (file-no-offence kind (longwords bytes) fault.place fault.reason told.1 (longword_offends offends))
  ends-with (Some e) ended told = λ at_end. absurd (end-not-found e told.front e.found told.offends told.at_place told.found at_end)

pub EndsWith-read : (kind : FileKind) (bytes : List ℕ) (given : Option Explanation) (ended whole : Bool) → (whole ≡ true → IsTrue ended)
    → (whole ≡ false → (fault : Fault) × OffendsAt kind (longwords bytes) fault.place fault.reason) → IsExplained kind given bytes → EndsWith given ended
EndsWith-read kind bytes None ended true is offends told = is refl
EndsWith-read kind bytes (Some e) ended true is offends told = λ at_end. is refl
EndsWith-read kind bytes given ended false is offends told = let o = offends refl in ends-with kind bytes o.0 o.1 given ended told

-- ---- a file of either kind

pub explained-file : (kind : FileKind) (file : File (Option Explanation) (Option Explanation)) (bytes : List ℕ)
    → IsFileOf {O = Option Explanation} {L = Option Explanation} (IsExplained Object) (IsExplained Load) kind file bytes → IsExplained kind (inner file) bytes
explained-file Object (file_is.Object given) bytes told = told
explained-file Object (file_is.Load given) bytes told = absurd told
explained-file Load (file_is.Object given) bytes told = absurd told
explained-file Load (file_is.Load given) bytes told = told
