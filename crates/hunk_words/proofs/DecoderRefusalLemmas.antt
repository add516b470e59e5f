-- What is known of the bytes that a decoder rejects, and of a read that stopped.
use Rattle.std.proofs.Common.{◌≡◌, ℕ, List, length, Option, Some, Bool, IsTrue, IfErr, Result, Ok, Err, inl, inr}
use Rattle.hunk_words.specs.Decoder.{Finished, RefusesBytes, RefusesInput, RefusesRead, StandsFor, refusal_of}
use Rattle.hunk_words.specs.DecoderCore.{Keeps}
use Rattle.hunk_words.specs.FirstOffence.{FirstOffence}
use Rattle.hunk_words.specs.FirstOffence.FirstOffence.{longword_offends, end_offends}
use Rattle.hunk_base.specs.Longwords.{longwords, unfinished}
use Rattle.hunk_base.specs.Streams.{HasRead, ReadStopped}
use Rattle.hunk_words.specs.declared.decoder.Decoder.{Decoder}
use Rattle.hunk_words.specs.declared.event.Event.{Event}
use Rattle.hunk_words.specs.declared.event.FileKind.{FileKind}
use Rattle.hunk_base.specs.declared.fault.Refusal.{Refusal}
use Rattle.hunk_base.specs.declared.fault.Refusal.TheVariants as refusal_is
use Rattle.hunk_base.specs.declared.fault.ReadFault.{ReadFault}
use Rattle.hunk_base.specs.declared.fault.ReadFault.TheVariants as read_fault
use Rattle.hunk_base.proofs.StreamsLemmas.{HasRead-weaker}

-- a piece was rejected
pub refuses-bytes : {T : Type 0} (kind : FileKind) (stands_for : T → List Event → Type 0) (d : Decoder T) (answer : Result (Unit {0}) Refusal) → Keeps (refusal_of d) answer
    → IfErr answer (λ refusal. (bytes : List ℕ) → StandsFor kind stands_for d bytes → RefusesBytes kind bytes refusal)
refuses-bytes kind stands_for d (Ok done) keeps = tt
refuses-bytes kind stands_for d (Err (refusal_is.Fault fault)) keeps = λ bytes stands. stands.core.faulty fault keeps
refuses-bytes kind stands_for d (Err refusal_is.OutOfMemory) keeps = λ bytes stands. tt

-- the end was rejected
pub refuses-input : {T : Type 0} (kind : FileKind) (stands_for : T → List Event → Type 0) (bytes : List ℕ) (refusal : Refusal) → Finished kind stands_for bytes (Err refusal) → RefusesInput kind bytes refusal
refuses-input kind stands_for bytes (refusal_is.Fault fault) finished = finished
refuses-input kind stands_for bytes refusal_is.OutOfMemory finished = tt

-- reading stopped
pub read-stopped : {T : Type 0} (kind : FileKind) (stands_for : T → List Event → Type 0) (d : Decoder T) (old new : Option (List ℕ)) (ended failed : Bool) (fault : ReadFault)
    → ReadStopped old new failed (StandsFor kind stands_for d) (λ refusal. refusal_of d ≡ Some refusal) fault → RefusesRead kind old new ended failed fault
read-stopped kind stands_for d old new ended failed (read_fault.Refused (refusal_is.Fault fault)) stopped =
    inl (HasRead-weaker old new _ _ (λ bytes stands. stands.core.faulty fault stopped.1) stopped.0)
read-stopped kind stands_for d old new ended failed (read_fault.Refused refusal_is.OutOfMemory) stopped = tt
read-stopped kind stands_for d old new ended failed read_fault.Device stopped = stopped

-- reading came to the end
pub read-refused : (kind : FileKind) (P : List ℕ → Type 0) (old new : Option (List ℕ)) (ended failed : Bool) (refusal : Refusal) → IsTrue ended → HasRead old new P
    → ((bytes : List ℕ) → P bytes → RefusesInput kind bytes refusal) → RefusesRead kind old new ended failed (read_fault.Refused refusal)
read-refused kind P old new ended failed (refusal_is.Fault fault) end read refuses = go (refuses read.bytes read.holds)
  where
    go : FirstOffence kind (longwords read.bytes) (length (unfinished read.bytes)) fault.place fault.reason → RefusesRead kind old new ended failed (read_fault.Refused (refusal_is.Fault fault))
    go (longword_offends o) = inl (record { bytes = read.bytes; consumed = read.consumed; holds = o })
    go (end_offends o) = inr (end, record { bytes = read.bytes; consumed = read.consumed; holds = o })
read-refused kind P old new ended failed refusal_is.OutOfMemory end read refuses = tt
