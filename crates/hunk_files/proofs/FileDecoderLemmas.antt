-- What a decoder of files of either kind stands for, after more bytes and at the end.
use Rattle.std.proofs.Common.{◌≡◌, ℕ, ◌<◌, ◌≤◌, ◌⊎◌, List, [], ◌∷◌, ◌++◌, length, take, drop, Option, Bool, IsTrue, inl, inr, append_assoc, refl, sym, ap, ◌∙◌, subst, arith}
use Rattle.std.proofs.lemmas.List.{length-append, length-take, take-append-drop, take_at}
use Rattle.hunk_words.specs.Decoder.{RefusesInput}
use Rattle.hunk_words.proofs.FilesReadingLemmas.{read-front}
use Rattle.hunk_words.specs.FirstOffence.{FirstOffence}
use Rattle.hunk_words.specs.FirstOffence.FirstOffence.{longword_offends, end_offends}
use Rattle.hunk_base.specs.Longwords.{longwords, unfinished}
use Rattle.hunk_base.specs.Streams.{HasRead}
use Rattle.hunk_words.specs.Reading.{initial_progress}
use Rattle.hunk_words.specs.Files.{IsValidPrefix}
use Rattle.hunk_words.specs.declared.event.FileKind.{FileKind}
use Rattle.hunk_words.specs.declared.event.FileKind.TheVariants as kind_is
use Rattle.hunk_base.specs.declared.fault.ReadFault.TheVariants as read_fault
use Rattle.hunk_base.specs.declared.fault.Refusal.{Refusal}
use Rattle.hunk_base.specs.declared.fault.Refusal.TheVariants as refusal_is
use Rattle.hunk_base.proofs.StreamsLemmas.{HasRead-weaker}
use Rattle.hunk_files.specs.FileDecoder.{IsReadFault, IsRefused, KindBegins, KindStandsFor, StandsFor}
use Rattle.hunk_files.specs.FileValue.{kind_of_bytes}
use Rattle.hunk_files.specs.declared.file_decoder.Decoders.{Decoders}
use Rattle.hunk_files.specs.declared.file_decoder.FileDecoder.{FileDecoder}

-- ---- the first four bytes

-- they tell the kind
pub kind-take : (bytes : List ℕ) → 4 ≤ length bytes → kind_of_bytes (take 4 bytes) ≡ kind_of_bytes bytes
kind-take [] four = absurd (omega arith)
kind-take (a ∷ []) four = absurd (omega arith)
kind-take (a ∷ b ∷ []) four = absurd (omega arith)
kind-take (a ∷ b ∷ c ∷ []) four = absurd (omega arith)
kind-take (a ∷ b ∷ c ∷ d ∷ bytes) four = refl

-- ---- feeding

-- with the decoders of a decoder that holds these first bytes
abbrev pub holding : {O L : Type 0} → List ℕ → Decoders O L → FileDecoder O L
holding front decoders = record { front = front; decoders = decoders }

-- fewer than four first bytes are all bytes
few-held : (old bytes : List ℕ) → old ≡ take 4 bytes → length old < 4 → old ≡ bytes
few-held old [] is few = is
few-held old (a ∷ []) is few = is
few-held old (a ∷ b ∷ []) is few = is
few-held old (a ∷ b ∷ c ∷ []) is few = is
few-held old (a ∷ b ∷ c ∷ d ∷ bytes) is few = absurd (let four : length old ≡ 4 = ap length is in omega (arith, four))

-- The first bytes are four now: their decoder takes them, and the rest of the piece.
pub stands-begun : {O L : Type 0} (object_kind : FileKind) (object : O → List ℕ → Type 0) (load_kind : FileKind) (load : L → List ℕ → Type 0) (before after : Decoders O L) (old front bytes piece rest : List ℕ) (taken : ℕ) (kind : FileKind)
    → StandsFor object_kind object load_kind load (holding old before) bytes → length old < 4 → front ≡ old ++ take taken piece → length front ≡ 4 → rest ≡ drop taken piece → kind ≡ kind_of_bytes front
    → (KindStandsFor object_kind object load_kind load kind before [] → KindStandsFor object_kind object load_kind load kind after (front ++ rest))
    → StandsFor object_kind object load_kind load (holding front after) (bytes ++ piece)
stands-begun object_kind object load_kind load before after old front bytes piece rest taken kind stands few is four rest_is kind_is feeds =
    let same = few-held old bytes stands.front few in
    let whole : front ++ rest ≡ bytes ++ piece = whole-is same in
    let first : front ≡ take 4 (bytes ++ piece) = sym (take_at front rest 4 four) ∙ ap (take 4) whole in
    let long : 4 ≤ length (bytes ++ piece) = omega (arith, length-append front rest, ap length whole, four) in
    let same_kind : kind ≡ kind_of_bytes (bytes ++ piece) = kind_is ∙ ap kind_of_bytes first ∙ kind-take (bytes ++ piece) long in
    let fed : KindStandsFor object_kind object load_kind load kind after (bytes ++ piece) =
    subst (λ fed. KindStandsFor object_kind object load_kind load kind after fed) whole (feeds (stands.unfed (omega (arith, few, ap length same)) kind)) in
    record {
      front = first;
      unfed = λ fewer. absurd (omega (arith, long));
      fed = λ enough. subst (λ k. KindStandsFor object_kind object load_kind load k after (bytes ++ piece)) same_kind fed;
    }
  where
    whole-is : old ≡ bytes → front ++ rest ≡ bytes ++ piece
    whole-is same = rw (is, rest_is, same, append_assoc bytes (take taken piece) (drop taken piece), take-append-drop taken piece) refl

-- fewer than four bytes may be the beginning of an object file
no-longwords : IsValidPrefix kind_is.Object []
no-longwords = read-front kind_is.Object [] (initial_progress kind_is.Object) tt (omega arith) refl

pub front-few : (bytes : List ℕ) → length bytes < 4 → IsValidPrefix (kind_of_bytes bytes) (longwords bytes)
front-few [] few = no-longwords
front-few (a ∷ []) few = no-longwords
front-few (a ∷ b ∷ []) few = no-longwords
front-few (a ∷ b ∷ c ∷ []) few = no-longwords
front-few (a ∷ b ∷ c ∷ d ∷ bytes) few = absurd (omega (arith, few))

-- what a decoder that holds these first bytes took without an error
pub begins-begun : {O L : Type 0} (object_kind : FileKind) (object : O → List ℕ → Type 0) (load_kind : FileKind) (load : L → List ℕ → Type 0) (object_begins load_begins : List ℕ → Type 0) (after : Decoders O L) (front bytes : List ℕ) (kind : FileKind)
    → StandsFor object_kind object load_kind load (holding front after) bytes → 4 ≤ length bytes → kind ≡ kind_of_bytes front
    → (KindStandsFor object_kind object load_kind load kind after bytes → KindBegins object_begins load_begins kind bytes) → KindBegins object_begins load_begins (kind_of_bytes bytes) bytes
begins-begun object_kind object load_kind load object_begins load_begins after front bytes kind stands long kind_is begins =
    let same : kind ≡ kind_of_bytes bytes = kind_is ∙ ap kind_of_bytes stands.front ∙ kind-take bytes long in
    subst (λ k. KindBegins object_begins load_begins k bytes) same (begins (subst (λ k. KindStandsFor object_kind object load_kind load k after bytes) (sym same) (stands.fed long)))

-- ---- the end

-- All bytes were fed: fewer than four, with these decoders after them; or four and more before.
abbrev pub IsFedWhole : {O L : Type 0} (Stands : Decoders O L → List ℕ → Type 0) → List ℕ → (before after : Decoders O L) → Type 0
IsFedWhole Stands front before after = ((length front < 4) × (Stands before [] → Stands after front)) ⊎ ((4 ≤ length front) × (after ≡ before))

pub stands-at_end : {O L : Type 0} (object_kind : FileKind) (object : O → List ℕ → Type 0) (load_kind : FileKind) (load : L → List ℕ → Type 0) (decoder : FileDecoder O L) (after : Decoders O L) (kind : FileKind) (bytes : List ℕ)
    → StandsFor object_kind object load_kind load decoder bytes → kind ≡ kind_of_bytes decoder.front
    → IsFedWhole (KindStandsFor object_kind object load_kind load kind) decoder.front decoder.decoders after
    → (kind ≡ kind_of_bytes bytes) × KindStandsFor object_kind object load_kind load kind after bytes
stands-at_end object_kind object load_kind load decoder after kind bytes stands is (inl few) =
    let same = few-held decoder.front bytes stands.front few.0 in
    (is ∙ ap kind_of_bytes same, subst (λ fed. KindStandsFor object_kind object load_kind load kind after fed) same (few.1 (stands.unfed (omega (arith, few.0, ap length same)) kind)))
stands-at_end object_kind object load_kind load decoder after kind bytes stands is (inr many) =
    let long : 4 ≤ length bytes = omega (arith, many.0, ap length stands.front, length-take 4 bytes) in
    let same : kind ≡ kind_of_bytes bytes = is ∙ ap kind_of_bytes stands.front ∙ kind-take bytes long in
    (same, subst (λ k. KindStandsFor object_kind object load_kind load k after bytes) (sym same) (subst (λ d. KindStandsFor object_kind object load_kind load (kind_of_bytes bytes) d bytes) (sym many.1) (stands.fed long)))

-- The end of what was read is rejected.
pub IsReadFault-end : (P : List ℕ → Type 0) (left left_then : Option (List ℕ)) (failed ended : Bool) (refusal : Refusal) → IsTrue ended → HasRead left left_then P
    → ((bytes : List ℕ) → P bytes → RefusesInput (kind_of_bytes bytes) bytes refusal) → IsReadFault left left_then failed ended (read_fault.Refused refusal)
IsReadFault-end P left left_then failed ended (refusal_is.Fault fault) at_end read refuses =
    HasRead-weaker left left_then P (IsRefused fault ended) (λ bytes holds. refused bytes (refuses bytes holds)) read
  where
    refused : (bytes : List ℕ) → FirstOffence (kind_of_bytes bytes) (longwords bytes) (length (unfinished bytes)) fault.place fault.reason → IsRefused fault ended bytes
    refused bytes (longword_offends offends) = inl offends
    refused bytes (end_offends early) = inr (at_end, early)
IsReadFault-end P left left_then failed ended refusal_is.OutOfMemory at_end read refuses = tt
