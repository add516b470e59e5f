-- What a decoder stands for: the bytes that it was fed, in any pieces.
use Rattle.std.specs.Prelude.{◌≡◌, ◌⊎◌, ℕ, Bool, IsTrue, List, length, Option, None, Result, Ok, Err}
use Rattle.hunk_base.specs.Longwords.{longwords, unfinished, IsWhole}
use Rattle.hunk_base.specs.Splitter.{StandsFor as SplitterStandsFor}
use Rattle.hunk_words.specs.FirstOffence.{EndsEarly, FirstOffence, OffendsAt}
use Rattle.hunk_base.specs.Streams.{HasRead}
use Rattle.hunk_words.specs.DecoderCore.{StandsFor as CoreStandsFor, TellsFile, kept, taker_of as core_taker}
use Rattle.hunk_words.specs.declared.decoder.Decoder.{Decoder}
use Rattle.hunk_words.specs.declared.event.Event.{Event}
use Rattle.hunk_words.specs.declared.event.FileKind.{FileKind}
use Rattle.hunk_base.specs.declared.fault.ReadFault.{ReadFault}
use Rattle.hunk_base.specs.declared.fault.ReadFault.TheVariants as read_fault
use Rattle.hunk_base.specs.declared.fault.Refusal.{Refusal}
use Rattle.hunk_base.specs.declared.fault.Refusal.TheVariants as refusal_is

-- the taker of a decoder
abbrev pub taker_of : {T : Type 0} → Decoder T → T
taker_of decoder = core_taker decoder.core

-- the error that it keeps
abbrev pub refusal_of : {T : Type 0} → Decoder T → Option Refusal
refusal_of decoder = kept decoder.core

-- Its core stands for their longwords. If no error is kept, the bytes of an unfinished longword are
-- held.
pub record StandsFor {T : Type 0} (kind : FileKind) (stands_for : T → List Event → Type 0) (decoder : Decoder T) (bytes : List ℕ) : Type 0 where
  pub held : refusal_of decoder ≡ None → SplitterStandsFor decoder.splitter bytes
  pub core : CoreStandsFor kind stands_for decoder.core (longwords bytes)

-- The result at the end of the bytes: they are whole and a file, or this is their first offence.
abbrev pub Finished : {T : Type 0} → FileKind → (T → List Event → Type 0) → List ℕ → Result T Refusal → Type 0
Finished kind stands_for bytes (Ok taker) = IsWhole bytes × TellsFile kind (stands_for taker) (longwords bytes)
Finished kind stands_for bytes (Err (refusal_is.Fault fault)) = FirstOffence kind (longwords bytes) (length (unfinished bytes)) fault.place fault.reason
Finished kind stands_for bytes (Err refusal_is.OutOfMemory) = Unit {0}

-- ---- errors

-- The refusal is the first offence of the bytes fed, or out of memory.
abbrev pub RefusesBytes : FileKind → List ℕ → Refusal → Type 0
RefusesBytes kind bytes (refusal_is.Fault fault) = OffendsAt kind (longwords bytes) fault.place fault.reason
RefusesBytes kind bytes refusal_is.OutOfMemory = Unit {0}

-- The same for whole input.
abbrev pub RefusesInput : FileKind → List ℕ → Refusal → Type 0
RefusesInput kind bytes (refusal_is.Fault fault) = FirstOffence kind (longwords bytes) (length (unfinished bytes)) fault.place fault.reason
RefusesInput kind bytes refusal_is.OutOfMemory = Unit {0}

-- What was read is rejected for its first offence; for ending too early only if the reader ended. A
-- device's failure comes from a read that failed.
abbrev pub RefusesRead : FileKind → (old new : Option (List ℕ)) (ended failed : Bool) → ReadFault → Type 0
RefusesRead kind old new ended failed (read_fault.Refused (refusal_is.Fault fault)) =
    HasRead old new (λ bytes. OffendsAt kind (longwords bytes) fault.place fault.reason)
    ⊎ (IsTrue ended × HasRead old new (λ bytes. EndsEarly kind (longwords bytes) (length (unfinished bytes)) fault.place fault.reason))
RefusesRead kind old new ended failed (read_fault.Refused refusal_is.OutOfMemory) = Unit {0}
RefusesRead kind old new ended failed read_fault.Device = IsTrue failed
