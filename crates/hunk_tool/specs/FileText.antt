-- What it means that a text of the value of a file was written, or why it was not.
use Rattle.std.specs.Prelude.{◌≡◌, ℕ, List, IsTrue, Option}
use Rattle.std.specs.Io.KnownBytes.{Appends, Keeps}
use Rattle.hunk_base.specs.Streams.{HasRead, TookFront}
use Rattle.hunk_files.specs.FileDecoder.{IsRefused}
use Rattle.hunk_files.specs.FileValue.{FileValue, IsOfItsKind}
use Rattle.hunk_tool.specs.Load.{Ends}
use Rattle.hunk_tool.specs.declared.tool_fault.ToolFault.{ToolFault}
use Rattle.hunk_tool.specs.declared.tool_fault.ToolFault.TheVariants.{Input, InputDevice, Link, Place, Output, OutOfMemory}

-- a text that tells of the bytes of a file no more than their value
abbrev pub of_value : (FileValue → List ℕ) → List ℕ → FileValue → List ℕ
of_value text bytes value = text value

-- The bytes are a file of the kind that its first four bytes tell, and the text of these bytes, with
-- their value, was written.
pub record IsWritten (text : List ℕ → FileValue → List ℕ) (old new : Option (List ℕ)) (bytes : List ℕ) : Type 0 where
  pub value : FileValue
  pub is_file : IsOfItsKind value bytes
  pub written : Appends old new (text bytes value)

-- The bytes are such a file, and the writer took exactly the first `written` bytes of the text.
pub record IsCutShort (text : List ℕ → FileValue → List ℕ) (old new : Option (List ℕ)) (written : ℕ) (bytes : List ℕ) : Type 0 where
  pub value : FileValue
  pub is_file : IsOfItsKind value bytes
  pub front : TookFront old new (text bytes value) written

-- Why the text of a file was not written, or not in full. Nothing was written before the reader
-- ended.
abbrev pub IsTextFault : {A : Type 0} → (text : List ℕ → FileValue → List ℕ) → Ends → ToolFault A → Type 0
IsTextFault text ends (Input file fault) = (file ≡ 0) × HasRead ends.left ends.left_then (IsRefused fault ends.ended) × Keeps ends.taken ends.taken_then
IsTextFault text ends (InputDevice file) = (file ≡ 0) × IsTrue ends.read_failed × Keeps ends.taken ends.taken_then
IsTextFault text ends (Link refusal) = ⊥
IsTextFault text ends (Place fault) = ⊥
IsTextFault text ends (Output written) =
    IsTrue ends.ended × HasRead ends.left ends.left_then (IsCutShort text ends.taken ends.taken_then written) × IsTrue ends.write_failed
IsTextFault text ends (OutOfMemory written) = (written ≡ 0) × Keeps ends.taken ends.taken_then
