-- What it means that the text of a file was written, or why it was not.
use Rattle.std.proofs.Common.{◌≡◌, ℕ, List, Option, Bool, IsTrue, refl, subst}
use Rattle.std.specs.Io.KnownBytes.{Appends}
use Rattle.std.proofs.KnownBytes.{Keeps-refl}
use Rattle.hunk_base.specs.Streams.{HasRead, IsDevice, TookFront, WriteStopped}
use Rattle.hunk_base.specs.declared.fault.ReadFault.{ReadFault}
use Rattle.hunk_base.specs.declared.fault.ReadFault.TheVariants as read_fault
use Rattle.hunk_base.specs.declared.fault.Refusal.TheVariants as refusal_is
use Rattle.hunk_base.specs.declared.fault.WriteFault.{WriteFault}
use Rattle.hunk_base.specs.declared.fault.WriteFault.TheVariants as write_fault
use Rattle.hunk_base.proofs.StreamsLemmas.{HasRead-weaker}
use Rattle.hunk_files.specs.FileDecoder.{IsReadFault}
use Rattle.hunk_tool.specs.FileText.{IsCutShort, IsTextFault, IsWritten, of_value}
use Rattle.hunk_files.specs.FileValue.{FileValue, IsOfItsKind}
use Rattle.hunk_tool.specs.Load.{ends_of}
use Rattle.hunk_tool.specs.ToolFault.{tool_fault_of_read, tool_fault_of_write}

-- The bytes are a file with this text.
pub record HasText (text : List ℕ → FileValue → List ℕ) (told bytes : List ℕ) : Type 0 where
  pub value : FileValue
  pub is_file : IsOfItsKind value bytes
  pub is_text : told ≡ text bytes value

-- What was read is a file with the text of its value.
pub HasText-read : (text : FileValue → List ℕ) (value : FileValue) (left left_then : Option (List ℕ)) → HasRead left left_then (IsOfItsKind value)
    → HasRead left left_then (HasText (of_value text) (text value))
HasText-read text value left left_then read =
    HasRead-weaker left left_then (IsOfItsKind value) (HasText (of_value text) (text value)) (λ bytes is. record { value = value; is_file = is; is_text = refl }) read

-- If nothing was made of the file, nothing was written.
pub IsTextFault-read : (A : Type 0) (text : List ℕ → FileValue → List ℕ) (left left_then : Option (List ℕ)) (failed ended : Bool) (taken : Option (List ℕ)) (write_failed : Bool) (fault : ReadFault)
    → IsReadFault left left_then failed ended fault → IsTextFault {A = A} text (ends_of left left_then failed ended taken taken write_failed) (tool_fault_of_read 0 fault)
IsTextFault-read A text left left_then failed ended taken write_failed (read_fault.Refused (refusal_is.Fault fault)) is = (refl, is, Keeps-refl taken)
IsTextFault-read A text left left_then failed ended taken write_failed (read_fault.Refused refusal_is.OutOfMemory) is = (refl, Keeps-refl taken)
IsTextFault-read A text left left_then failed ended taken write_failed read_fault.Device is = (refl, is, Keeps-refl taken)

-- The file was read, and writing its text stopped.
pub IsTextFault-written : (A : Type 0) {W : Type 0} (text : List ℕ → FileValue → List ℕ) (taken : W → Option (List ℕ)) (failed : W → Bool) (old new : W) (told : List ℕ) (left left_then : Option (List ℕ)) (read_failed ended : Bool) (fault : WriteFault)
    → IsTrue ended → HasRead left left_then (HasText text told) → IsDevice fault → WriteStopped taken failed old new told fault
    → IsTextFault {A = A} text (ends_of left left_then read_failed ended (taken old) (taken new) (failed new)) (tool_fault_of_write fault)
IsTextFault-written A text taken failed old new told left left_then read_failed ended (write_fault.Device written) at_end read device stopped = (
  at_end,
  HasRead-weaker left left_then _ (IsCutShort text (taken old) (taken new) written) (λ bytes has. record {
    value = has.value;
    is_file = has.is_file;
    front = subst (λ t. TookFront (taken old) (taken new) t written) has.is_text stopped.0;
  }) read,
  stopped.1,
)
IsTextFault-written A text taken failed old new told left left_then read_failed ended (write_fault.OutOfMemory written) at_end read device stopped = absurd device

-- The text of the file was written.
pub IsWritten-of : (text : List ℕ → FileValue → List ℕ) (told : List ℕ) (left left_then old new : Option (List ℕ)) → HasRead left left_then (HasText text told)
    → Appends old new told → HasRead left left_then (IsWritten text old new)
IsWritten-of text told left left_then old new read written =
    HasRead-weaker left left_then _ (IsWritten text old new) (λ bytes has. record {
      value = has.value;
      is_file = has.is_file;
      written = subst (Appends old new) has.is_text written;
    }) read
