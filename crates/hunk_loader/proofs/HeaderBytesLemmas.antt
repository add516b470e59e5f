-- A piece of a header, and the end of a file in its header.
use Rattle.std.proofs.Common.{◌≡◌, ◌⊎◌, ℕ, ◌+◌, ◌-◌, ◌<◌, ◌≤◌, List, [], ◌∷◌, ◌++◌, drop, length, min, Some, Err, take, inl, inr, sym, ap, subst, ◌∙◌, append_assoc, arith}
use Rattle.std.proofs.Math.Seq.{take-add}
use Rattle.std.proofs.lemmas.Bool.{cases_lt}
use Rattle.std.proofs.lemmas.List.{length-append, length-drop, length-take-le}
use Rattle.hunk_base.specs.Longwords.{longwords}
use Rattle.hunk_base.specs.declared.fault.Refusal.{Refusal}
use Rattle.hunk_base.specs.declared.fault.Refusal.TheVariants as refusal_is
use Rattle.hunk_base.specs.declared.fault.Reason.{Reason}
use Rattle.hunk_words.specs.Decoder.{StandsFor as DecoderStandsFor, refusal_of as decoder_refusal}
use Rattle.hunk_words.specs.Files.{IsValidPrefix}
use Rattle.hunk_words.specs.FirstOffence.{EndsEarly, FirstOffence, OffendsAt}
use Rattle.hunk_words.specs.FirstOffence.FirstOffence.{longword_offends, end_offends}
use Rattle.hunk_words.specs.declared.decoder.Decoder.{Decoder}
use Rattle.hunk_words.specs.declared.event.FileKind.TheVariants.{Load}
use Rattle.hunk_words.proofs.DecoderLemmas.{StandsFor-rest}
use Rattle.hunk_words.proofs.FilesReadingLemmas.{front-front}
use Rattle.hunk_loader.specs.HeaderBytes.{StopsAtEnd}
use Rattle.hunk_loader.specs.HeaderHunks.{header_length}
use Rattle.hunk_loader.specs.ImageBuilder.{BuilderState, StandsFor as BuilderStandsFor}
use Rattle.hunk_loader.specs.ImageLoader.{Fed}
use Rattle.hunk_loader.specs.Loading.{load_refusal}
use Rattle.hunk_loader.proofs.HeaderHunksLemmas.{header_length-append, header_length-least}

-- ---- refusals

-- what refuses the front of a piece refuses the piece
pub Fed-refused : (d : Decoder BuilderState) (bytes piece : List ℕ) (n : ℕ) (refusal : Refusal) → decoder_refusal d ≡ Some refusal
    → DecoderStandsFor Load BuilderStandsFor d (bytes ++ take n piece) → Fed (bytes ++ piece) (Err (load_refusal refusal))
Fed-refused d bytes piece n (refusal_is.Fault fault) keeps stands = (StandsFor-rest Load BuilderStandsFor d bytes piece n (refusal_is.Fault fault) keeps stands).core.faulty fault keeps
Fed-refused d bytes piece n refusal_is.OutOfMemory keeps stands = tt

-- a valid prefix has no offence
pub prefix-no-offence : (ws : List ℕ) (place : ℕ) (r : Reason) → IsValidPrefix Load ws → OffendsAt Load ws place r → ⊥
prefix-no-offence ws place r valid o =
    let parts : ws ≡ (o.front ++ o.bad ∷ []) ++ o.behind = o.parts ∙ sym (append_assoc o.front (o.bad ∷ []) o.behind) in
    o.no_longer (front-front Load (o.front ++ o.bad ∷ []) o.behind (subst (λ us. IsValidPrefix Load us) parts valid))

pub prefix-ends-early : (ws : List ℕ) (rest place : ℕ) (r : Reason) → IsValidPrefix Load ws → FirstOffence Load ws rest place r → EndsEarly Load ws rest place r
prefix-ends-early ws rest place r valid (longword_offends o) = absurd (prefix-no-offence ws place r valid o)
prefix-ends-early ws rest place r valid (end_offends early) = early

-- ---- how much of a piece is taken

-- first up to the number of hunks, and then up to the last size
pub taken-twice : (bytes piece : List ℕ) (front more : ℕ) → (bytes ++ take front piece) ++ take more (drop front piece) ≡ bytes ++ take (front + more) piece
taken-twice bytes piece front more = append_assoc bytes (take front piece) (take more (drop front piece)) ∙ ap (λ bs. bytes ++ bs) (sym (take-add front more piece))

length-taken : (bytes piece : List ℕ) (n : ℕ) → n ≤ length piece → length (bytes ++ take n piece) ≡ length bytes + n
length-taken bytes piece n within = omega (arith, length-append bytes (take n piece), length-take-le n piece within)

-- the number of hunks has not come
stops-before : (bytes piece : List ℕ) (front more : ℕ) → front ≡ min (length piece) (12 - length bytes) → more ≤ length piece - front → length bytes + front < 12
    → StopsAtEnd bytes piece (front + more)
stops-before bytes piece front more is few before =
    let all : front + more ≡ length piece = omega arith in
    let long = length-taken bytes piece (front + more) (omega arith) in
    let least = header_length-least (longwords (bytes ++ take (front + more) piece)) in
    record { within = omega arith; stops = omega arith; goes_on = λ less. all }

-- it has, with the front of the piece or before
stops-behind : (bytes piece : List ℕ) (front more : ℕ) → length bytes ≤ header_length (longwords bytes) → front ≡ min (length piece) (12 - length bytes) → 12 ≤ length bytes + front
    → more ≡ min (length piece - front) (header_length (longwords (bytes ++ take front piece)) - (length bytes + front))
    → StopsAtEnd bytes piece (front + more)
stops-behind bytes piece front more within is some rest =
    let first = bytes ++ take front piece in
    let end = header_length (longwords first) in
    let long = length-taken bytes piece front (omega arith) in
    let long_then = length-taken bytes piece (front + more) (omega arith) in
    let same : header_length (longwords (bytes ++ take (front + more) piece)) ≡ end =
    ap (λ bs. header_length (longwords bs)) (sym (taken-twice bytes piece front more)) ∙ header_length-append first (take more (drop front piece)) (omega arith) in
    let room : length bytes + front ≤ end = by (cases_lt (length bytes) 12) in
    record { within = omega arith; stops = omega arith; goes_on = λ less. omega arith }
  where
    by : (length bytes < 12) ⊎ (12 ≤ length bytes) → length bytes + front ≤ header_length (longwords (bytes ++ take front piece))
    by (inl few) = omega (arith, header_length-least (longwords (bytes ++ take front piece)))
    by (inr many) = omega (arith, header_length-append bytes (take front piece) many)

pub StopsAtEnd-twice : (bytes piece : List ℕ) (front more : ℕ) → length bytes ≤ header_length (longwords bytes) → front ≡ min (length piece) (12 - length bytes)
    → more ≡ min (length (drop front piece)) (header_length (longwords (bytes ++ take front piece)) - length (bytes ++ take front piece))
    → StopsAtEnd bytes piece (front + more)
StopsAtEnd-twice bytes piece front more within is rest =
    let long = length-taken bytes piece front (omega arith) in
    let left = length-drop front piece in
    elim (cases_lt (length bytes + front) 12) [
      | inl before ↦ stops-before bytes piece front more is (omega arith) before
      | inr some ↦ stops-behind bytes piece front more within is some (omega arith)
    ]
