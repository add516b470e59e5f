-- What the result of a read or a write says, and what is known after reading or writing a text.
use Rattle.std.specs.Prelude.{◌≡◌, ℕ, zero, suc, ◌≤◌, List, length, take, Bool, true, false, IsTrue, Option, Result, Ok, Err}
use Rattle.std.specs.Io.KnownBytes.{Appends, Consumes}
use Rattle.hunk_base.specs.declared.fault.ReadFault.{ReadFault}
use Rattle.hunk_base.specs.declared.fault.ReadFault.TheVariants as read_fault
use Rattle.hunk_base.specs.declared.fault.ReadFault.TheVariants.{Refused}
use Rattle.hunk_base.specs.declared.fault.Refusal.{Refusal}
use Rattle.hunk_base.specs.declared.fault.WriteFault.{WriteFault}
use Rattle.hunk_base.specs.declared.fault.WriteFault.TheVariants.{Device, OutOfMemory}

-- A read of no byte into a buffer of at least one is the reader's end.
abbrev pub ends : {E : Type 0} → Result ℕ E → ℕ → Bool
ends (Ok zero) (suc room) = true
ends _ room = false

-- A write failed, or took none of at least one byte.
abbrev pub refuses : {E : Type 0} → Result ℕ E → ℕ → Bool
refuses (Err e) len = true
refuses (Ok zero) (suc len) = true
refuses (Ok n) len = false

-- ---- writing

-- Writing stopped inside this text: the writer, which held `old` and holds `new` if that is known,
-- took exactly its first `written` bytes.
pub record TookFront (old new : Option (List ℕ)) (text : List ℕ) (written : ℕ) : Type 0 where
  pub within : written ≤ length text
  pub taken : Appends old new (take written text)

-- Writing stopped inside the text, of which the writer took exactly a prefix: because a write
-- failed, or, if no write failed, because an allocation failed. What a writer has taken, if that is
-- known, and whether a write has failed so far, are those of its `Sink`.
abbrev pub WriteStopped : {W : Type 0} (taken : W → Option (List ℕ)) (failed : W → Bool) (old new : W) (text : List ℕ) → WriteFault → Type 0
WriteStopped taken failed old new text (Device written) = TookFront (taken old) (taken new) text written × IsTrue (failed new)
WriteStopped taken failed old new text (OutOfMemory written) = TookFront (taken old) (taken new) text written × (failed new ≡ failed old)

-- The whole text was written, and no write failed; or writing it stopped.
abbrev pub WroteAll : {W : Type 0} (taken : W → Option (List ℕ)) (failed : W → Bool) (old new : W) (text : List ℕ) → Result (Unit {0}) WriteFault → Type 0
WroteAll taken failed old new text (Ok done) = Appends (taken old) (taken new) text × (failed new ≡ failed old)
WroteAll taken failed old new text (Err fault) = WriteStopped taken failed old new text fault

-- Likewise of a text whose bytes nobody counts: it was written, or a write failed inside it.
abbrev pub WroteText : {W E : Type 0} (taken : W → Option (List ℕ)) (failed : W → Bool) (old new : W) (text : List ℕ) → Result (Unit {0}) E → Type 0
WroteText taken failed old new text (Ok done) = Appends (taken old) (taken new) text × (failed new ≡ failed old)
WroteText taken failed old new text (Err fault) = (written : ℕ) × WriteStopped taken failed old new text (Device written)

-- The device failed: no allocation did.
abbrev pub IsDevice : WriteFault → Type 0
IsDevice (Device written) = Unit {0}
IsDevice (OutOfMemory written) = ⊥

-- ---- reading

-- Some bytes came from a reader, which had `old` left and has `new` left if that is known, and this
-- holds of them.
pub record HasRead (old new : Option (List ℕ)) (Holds : List ℕ → Type 0) : Type 0 where
  pub bytes : List ℕ
  pub consumed : Consumes old new bytes
  pub holds : Holds bytes

-- Reading stopped: a decoder rejected what was read, and keeps that error; or a read failed.
abbrev pub ReadStopped : Option (List ℕ) → Option (List ℕ) → Bool → (List ℕ → Type 0) → (Refusal → Type 0) → ReadFault → Type 0
ReadStopped old new failed Stands Keeps (Refused refusal) = HasRead old new Stands × Keeps refusal
ReadStopped old new failed Stands Keeps read_fault.Device = IsTrue failed
