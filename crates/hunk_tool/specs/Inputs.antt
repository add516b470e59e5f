-- Object files that are read from several readers, one after another.
use Rattle.std.specs.Borrow.{Bor}
use Rattle.std.specs.Prelude.{◌≡◌, ℕ, List, [], ◌∷◌, ◌++◌, length, map, Bool, IsTrue, Option}
use Rattle.std.specs.Io.KnownBytes.{Consumes}
use Rattle.std.specs.List.{zip}
use Rattle.hunk_words.specs.Decoder.{RefusesRead}
use Rattle.hunk_words.specs.declared.event.FileKind.TheVariants.{Object}
use Rattle.hunk_base.specs.declared.fault.Fault.{Fault}
use Rattle.hunk_base.specs.declared.fault.ReadFault.{ReadFault}
use Rattle.hunk_base.specs.declared.fault.ReadFault.TheVariants as read_fault
use Rattle.hunk_base.specs.declared.fault.Refusal.TheVariants as refusal_is
use Rattle.hunk_objects.specs.ProgramUnit.{IsObjectOf, ObjectUnit}
use Rattle.hunk_tool.specs.declared.tool_fault.ToolFault.{ToolFault}
use Rattle.hunk_tool.specs.declared.tool_fault.ToolFault.TheVariants.{Input as InputFault, InputDevice, OutOfMemory}

-- the names of files, of which each is borrowed
abbrev pub file_names : List (Bor (List ℕ)) → List (List ℕ)
file_names = map (λ name. name.now)

-- what is known of a reader before and after a call
pub record Input : Type 0 where
  pub left : Option (List ℕ)
  pub left_then : Option (List ℕ)
  pub failed : Bool
  pub ended : Bool

-- the readers before and after a call, each as the other three tell of it
abbrev pub inputs_of : {R : Type 0} (left : R → Option (List ℕ)) (failed ended : R → Bool) → (old new : List R) → List Input
inputs_of left failed ended old new =
    map (λ reader. record { left = left reader.0; left_then = left reader.1; failed = failed reader.1; ended = ended reader.1 }) (zip old new)

-- The bytes came from the reader, up to its end.
pub record WasRead (input : Input) (bytes : List ℕ) : Type 0 where
  pub consumed : Consumes input.left input.left_then bytes
  pub ended : IsTrue input.ended

-- The bytes of each input, read to its end.
abbrev pub WereRead : List Input → List (List ℕ) → Type 0
WereRead [] [] = Unit {0}
WereRead (input ∷ inputs) (bytes ∷ files) = WasRead input bytes × WereRead inputs files
WereRead inputs files = ⊥

-- The bytes of each file are an object file, and these are the units of all, in order.
abbrev pub AreObjects : List (List ℕ) → List ObjectUnit → Type 0
AreObjects [] units = units ≡ []
AreObjects (bytes ∷ files) units = (first : List ObjectUnit) × (others : List ObjectUnit) × IsObjectOf first bytes × AreObjects files others × (units ≡ first ++ others)

-- This holds of what was read of the inputs, to the end of each.
pub record HaveRead (inputs : List Input) (Holds : List (List ℕ) → Type 0) : Type 0 where
  pub files : List (List ℕ)
  pub were_read : WereRead inputs files
  pub holds : Holds files

-- ---- faults

-- The input of this number is the first that was not read as an object file: reading it gave this
-- fault.
pub record IsRefusedAt (inputs : List Input) (file : ℕ) (fault : ReadFault) : Type 0 where
  pub before : List Input
  pub input : Input
  pub after : List Input
  pub among : inputs ≡ before ++ input ∷ after
  pub number : length before ≡ file
  pub earlier : HaveRead before (λ files. (units : List ObjectUnit) × AreObjects files units)
  pub refused : RefusesRead Object input.left input.left_then input.ended input.failed fault

-- It is not an object file, with this as the first offence.
abbrev pub IsNoObject : List Input → ℕ → Fault → Type 0
IsNoObject inputs file fault = IsRefusedAt inputs file (read_fault.Refused (refusal_is.Fault fault))

-- A read of it failed.
abbrev pub IsUnread : List Input → ℕ → Type 0
IsUnread inputs file = IsRefusedAt inputs file read_fault.Device

-- Why the units of the inputs were not read.
abbrev pub IsInputFault : {A : Type 0} → List Input → ToolFault A → Type 0
IsInputFault inputs (InputFault file fault) = IsNoObject inputs file fault
IsInputFault inputs (InputDevice file) = IsUnread inputs file
IsInputFault inputs (OutOfMemory written) = written ≡ 0
IsInputFault inputs _ = ⊥
