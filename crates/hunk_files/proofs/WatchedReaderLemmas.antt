-- What a reader that shows the longwords to a watcher stands for, after more bytes, and where its longwords offend.
use Rattle.std.proofs.Common.{◌≡◌, ℕ, ◌+◌, ◌<◌, ◌^◌, List, ◌++◌, length, Option, Some, None, sym, ◌∙◌, arith}
use Rattle.hunk_words.specs.Decoder.{RefusesBytes, RefusesInput}
use Rattle.hunk_words.specs.FirstOffence.FirstOffence.{longword_offends}
use Rattle.hunk_words.specs.declared.due.Due.{Due}
use Rattle.hunk_words.specs.declared.event.Event.{Event}
use Rattle.hunk_words.specs.declared.event.FileKind.{FileKind}
use Rattle.hunk_base.specs.Longwords.{longwords}
use Rattle.hunk_base.specs.declared.fault.Refusal.{Refusal}
use Rattle.hunk_base.specs.declared.fault.Refusal.TheVariants as refusal_is
use Rattle.hunk_base.proofs.LongwordsLemmas.{length-longwords, length-unfinished, longwords-append}
use Rattle.hunk_words.proofs.DecoderCoreLemmas.{OffendsAt-append}
use Rattle.hunk_files.specs.WatchedReader.{StandsFor}
use Rattle.hunk_files.specs.declared.watched_reader.WatchedReader.{WatchedReader}

pub keeps-one : {A : Type 0} (o : Option A) (a : A) → o ≡ None → o ≡ Some a → ⊥
keeps-one {A = A} o a none some = let both : ◌≡◌ {A = Option A} None (Some a) = sym none ∙ some in absurd cc

pub StandsFor-append : {W B : Type 0} (kind : FileKind) (stands_for : B → List Event → Type 0) (watches : FileKind → W → List (Due × ℕ) → Type 0) (r : WatchedReader W B) (bytes more : List ℕ) (refusal : Refusal) → r.refusal ≡ Some refusal
    → StandsFor kind stands_for watches r bytes → StandsFor kind stands_for watches r (bytes ++ more)
StandsFor-append kind stands_for watches r bytes more refusal keeps stands = record {
  held = λ none. absurd (keeps-one r.refusal refusal none keeps);
  words = record {
    good = λ none. absurd (keeps-one r.refusal refusal none keeps);
    faulty = λ fault is. rw longwords-append (OffendsAt-append kind (longwords bytes) _ fault.place fault.reason (stands.words.faulty fault is));
  };
}

pub StandsFor-bounded : {W B : Type 0} (kind : FileKind) (stands_for : B → List Event → Type 0) (watches : FileKind → W → List (Due × ℕ) → Type 0) (r : WatchedReader W B) (bytes : List ℕ) → r.refusal ≡ None → StandsFor kind stands_for watches r bytes → length bytes < 2 ^ 30 + 4
StandsFor-bounded kind stands_for watches r bytes none stands =
    let reads = stands.words.good none in
    let b = reads.core.good reads.none in
    omega (arith, length-longwords bytes, length-unfinished bytes, b.few)

pub StandsFor-refused : {W B : Type 0} (kind : FileKind) (stands_for : B → List Event → Type 0) (watches : FileKind → W → List (Due × ℕ) → Type 0) (r : WatchedReader W B) (bytes : List ℕ) (refusal : Refusal) → r.refusal ≡ Some refusal → StandsFor kind stands_for watches r bytes
    → RefusesBytes kind bytes refusal
StandsFor-refused kind stands_for watches r bytes (refusal_is.Fault fault) keeps stands = stands.words.faulty fault keeps
StandsFor-refused kind stands_for watches r bytes refusal_is.OutOfMemory keeps stands = tt

pub refuses-input : (kind : FileKind) (bytes : List ℕ) (refusal : Refusal) → RefusesBytes kind bytes refusal → RefusesInput kind bytes refusal
refuses-input kind bytes (refusal_is.Fault fault) refuses = longword_offends refuses
refuses-input kind bytes refusal_is.OutOfMemory refuses = tt
