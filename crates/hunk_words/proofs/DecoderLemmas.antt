-- What a decoder stands for, after more bytes, and at their end.
use Rattle.std.proofs.Common.{◌≡◌, ℕ, ◌+◌, ◌-◌, ◌*◌, ◌<◌, ◌≤◌, ◌^◌, List, [], ◌∷◌, ◌++◌, length, take, drop, get_or, Option, Some, None, Result, Ok, Err, OnOk, sym, ap, subst, ◌∙◌, append_assoc, length-drop, arith}
use Rattle.std.proofs.lemmas.List.{take_more, take-append-drop, take_all}
use Rattle.hunk_base.specs.Longwords.{longwords, unfinished}
use Rattle.hunk_words.specs.Files.{IsValidPrefix}
use Rattle.hunk_words.specs.FirstOffence.{FirstOffence}
use Rattle.hunk_words.specs.FirstOffence.FirstOffence.{longword_offends}
use Rattle.hunk_words.specs.DecoderCore.{EndAnswered, Keeps, kept}
use Rattle.hunk_words.specs.DecoderCore.{StandsFor as CoreStandsFor}
use Rattle.hunk_base.specs.Splitter.{StandsFor as SplitterStandsFor}
use Rattle.hunk_words.specs.Decoder.{StandsFor, Finished}
use Rattle.hunk_words.specs.declared.decoder.Decoder.{Decoder}
use Rattle.hunk_words.specs.declared.decoder_core.Core.{Core}
use Rattle.hunk_words.specs.declared.event.Event.{Event}
use Rattle.hunk_words.specs.declared.event.FileKind.{FileKind}
use Rattle.hunk_base.specs.declared.fault.Refusal.{Refusal}
use Rattle.hunk_base.specs.declared.fault.Refusal.TheVariants as refusal_is
use Rattle.hunk_base.proofs.LongwordsLemmas.{longwords-append, unfinished-append, length-longwords, length-unfinished, list-none, unfinished-none}
use Rattle.hunk_words.proofs.DecoderCoreLemmas.{StandsBy-append, StandsBy-front}

-- what keeps an error stands for everything that comes
pub StandsFor-append : {T : Type 0} (kind : FileKind) (stands_for : T → List Event → Type 0) (d : Decoder T) (bytes more : List ℕ) (refusal : Refusal) → kept d.core ≡ Some refusal
    → StandsFor kind stands_for d bytes → StandsFor kind stands_for d (bytes ++ more)
StandsFor-append kind stands_for d bytes more refusal keeps stands = record {
  held = λ none. absurd cc;
  core = rw longwords-append (StandsBy-append kind (stands_for d.core.taker) d.core.state (longwords bytes) _ refusal keeps stands.core);
}

-- one more byte of a piece
pub append-next : (bytes piece : List ℕ) (i : ℕ) → i < length piece → (bytes ++ take i piece) ++ get_or piece i 0 ∷ [] ≡ bytes ++ take (i + 1) piece
append-next bytes piece i within = append_assoc bytes (take i piece) (get_or piece i 0 ∷ []) ∙ ap (λ xs. bytes ++ xs) (sym (take_more piece i 0 within))

-- the beginning of a piece, and the rest of it
pub append-rest : (bytes piece : List ℕ) (i : ℕ) → (bytes ++ take i piece) ++ drop i piece ≡ bytes ++ piece
append-rest bytes piece i = append_assoc bytes (take i piece) (drop i piece) ∙ ap (λ xs. bytes ++ xs) (take-append-drop i piece)

pub append-tail : (bytes piece : List ℕ) (n : ℕ) → n ≤ length piece → (bytes ++ take n piece) ++ take (length piece - n) (drop n piece) ≡ bytes ++ piece
append-tail bytes piece n within =
    ap (λ xs. (bytes ++ take n piece) ++ xs) (take_all (length piece - n) (drop n piece) (omega (arith, length-drop n piece))) ∙ append-rest bytes piece n

-- longwords after whole ones
pub StandsFor-words : {T : Type 0} (kind : FileKind) (stands_for : T → List Event → Type 0) (d : Decoder T) (core : Core T) (bytes whole : List ℕ) (rest n : ℕ) → kept d.core ≡ None
    → StandsFor kind stands_for d bytes → ((bs : List ℕ) → SplitterStandsFor d.splitter bs → rest ≡ length (unfinished bs)) → rest ≡ 0 → length whole ≡ 4 * n
    → CoreStandsFor kind stands_for core (longwords bytes ++ longwords whole)
    → StandsFor kind stands_for (record { splitter = d.splitter; core = core }) (bytes ++ whole)
StandsFor-words kind stands_for d core bytes whole rest n none stands held zero_rest fours taken =
    let empty : unfinished bytes ≡ [] = list-none (unfinished bytes) (sym (held bytes (stands.held none)) ∙ zero_rest) in
    record {
      held = λ is. record { held = (stands.held none).held ∙ empty ∙ sym (unfinished-none whole n fours) ∙ sym (unfinished-append bytes whole ∙ ap (λ xs. unfinished (xs ++ whole)) empty) };
      core = subst (λ ws. CoreStandsFor kind stands_for core ws) (sym (longwords-append bytes whole ∙ ap (λ xs. longwords bytes ++ longwords (xs ++ whole)) empty)) taken;
    }

-- the result of a step that keeps its error
pub OnOk-kept : {A P : Type 0} (o : Option Refusal) (result : Result A Refusal) → Keeps o result → (o ≡ None → P) → OnOk result P
OnOk-kept o (Ok done) keeps fact = fact keeps
OnOk-kept o (Err refusal) keeps fact = tt

-- ---- if no error is kept

pub StandsFor-front : {T : Type 0} (kind : FileKind) (stands_for : T → List Event → Type 0) (d : Decoder T) (bytes : List ℕ) → kept d.core ≡ None
    → StandsFor kind stands_for d bytes → IsValidPrefix kind (longwords bytes)
StandsFor-front kind stands_for d bytes none stands = StandsBy-front kind (stands_for d.core.taker) d.core.state (longwords bytes) none stands.core

pub StandsFor-bounded : {T : Type 0} (kind : FileKind) (stands_for : T → List Event → Type 0) (d : Decoder T) (bytes : List ℕ) → kept d.core ≡ None
    → StandsFor kind stands_for d bytes → length bytes < 2 ^ 30 + 4
StandsFor-bounded kind stands_for d bytes none stands =
    let b = stands.core.good none in
    omega (arith, length-longwords bytes, length-unfinished bytes, b.few)

-- ---- the end

open-finished : {T : Type 0} (kind : FileKind) (stands_for : T → List Event → Type 0) (bytes : List ℕ) (rest : ℕ) (result : Result T Refusal) → rest ≡ length (unfinished bytes)
    → EndAnswered kind stands_for (longwords bytes) rest result → Finished kind stands_for bytes result
open-finished kind stands_for bytes rest (Ok taker) is answered = (list-none (unfinished bytes) (sym is ∙ answered.0), answered.1)
open-finished kind stands_for bytes rest (Err (refusal_is.Fault fault)) is answered = subst (λ n. FirstOffence kind (longwords bytes) n fault.place fault.reason) is answered
open-finished kind stands_for bytes rest (Err refusal_is.OutOfMemory) is answered = tt

kept-finished : {T : Type 0} (kind : FileKind) (stands_for : T → List Event → Type 0) (d : Decoder T) (bytes : List ℕ) (refusal : Refusal) → kept d.core ≡ Some refusal
    → StandsFor kind stands_for d bytes → Finished {T = T} kind stands_for bytes (Err refusal)
kept-finished kind stands_for d bytes (refusal_is.Fault fault) keeps stands = longword_offends (stands.core.faulty fault keeps)
kept-finished kind stands_for d bytes refusal_is.OutOfMemory keeps stands = tt

pub Finished-end : {T : Type 0} (kind : FileKind) (stands_for : T → List Event → Type 0) (d : Decoder T) (bytes : List ℕ) (rest : ℕ) (result : Result T Refusal) (o : Option Refusal) → kept d.core ≡ o
    → StandsFor kind stands_for d bytes → (kept d.core ≡ None → rest ≡ length (unfinished bytes)) → EndAnswered kind stands_for (longwords bytes) rest result
    → ((refusal : Refusal) → kept d.core ≡ Some refusal → result ≡ Err refusal) → Finished kind stands_for bytes result
Finished-end kind stands_for d bytes rest result None none stands held answered again = open-finished kind stands_for bytes rest result (held none) answered
Finished-end kind stands_for d bytes rest result (Some refusal) keeps stands held answered again =
    subst (λ r. Finished kind stands_for bytes r) (sym (again refusal keeps)) (kept-finished kind stands_for d bytes refusal keeps stands)

-- an error in the beginning of a piece stands for the whole of it
pub StandsFor-rest : {T : Type 0} (kind : FileKind) (stands_for : T → List Event → Type 0) (d : Decoder T) (bytes piece : List ℕ) (n : ℕ) (refusal : Refusal) → kept d.core ≡ Some refusal
    → StandsFor kind stands_for d (bytes ++ take n piece) → StandsFor kind stands_for d (bytes ++ piece)
StandsFor-rest kind stands_for d bytes piece n refusal keeps stands =
    subst (λ xs. StandsFor kind stands_for d xs) (append-rest bytes piece n) (StandsFor-append kind stands_for d (bytes ++ take n piece) (drop n piece) refusal keeps stands)
