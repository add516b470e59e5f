-- The copy of a load file is a load file, and what a fault of copying says.
use Rattle.std.proofs.Common.{◌≡◌, ◌<◌, ℕ, inl, inr, List, Option, Bool, true, false, IsTrue, ap₂, refl, subst}
use Rattle.std.specs.Io.KnownBytes.{Appends}
use Rattle.std.proofs.KnownBytes.{Keeps-refl}
use Rattle.hunk_base.specs.Name.{bytes_of}
use Rattle.hunk_base.specs.Streams.{HasRead, TookFront, WriteStopped}
use Rattle.hunk_base.specs.declared.fault.ReadFault.{ReadFault}
use Rattle.hunk_base.specs.declared.fault.ReadFault.TheVariants as read_fault
use Rattle.hunk_base.specs.declared.fault.Refusal.TheVariants as refusal_is
use Rattle.hunk_base.specs.declared.fault.WriteFault.{WriteFault}
use Rattle.hunk_base.specs.declared.fault.WriteFault.TheVariants as write_fault
use Rattle.hunk_base.proofs.StreamsLemmas.{HasRead-weaker}
use Rattle.hunk_words.specs.Decoder.{RefusesRead}
use Rattle.hunk_words.specs.declared.event.FileKind.TheVariants.{Load}
use Rattle.hunk_loadfile.specs.LoadFile.{IsLoadOf}
use Rattle.hunk_loadfile.specs.LoadHunk.{FileHunk}
use Rattle.hunk_loadfile.specs.Rules.{IsLoadFile, carried_longwords, most_carried}
use Rattle.hunk_loadfile.specs.WrittenForm.{written_in}
use Rattle.hunk_loadfile.specs.declared.load_form.LoadForm.{LoadForm}
use Rattle.hunk_loadfile.proofs.NormalFormLemmas.{IsLoadFile-normal}
use Rattle.hunk_loadfile.proofs.RulesReadLemmas.{IsLoadFile-load}
use Rattle.hunk_loadfile.proofs.StrippingLemmas.{IsLoadFile-stripped}
use Rattle.hunk_loadfile.proofs.TrimmingLemmas.{IsLoadFile-trimmed}
use Rattle.hunk_loadfile.proofs.WrittenFormLengthLemmas.{written_in-is_short}
use Rattle.hunk_link.specs.declared.refusal.LinkRefusal.{LinkRefusal}
use Rattle.hunk_link.specs.declared.refusal.LinkRefusal.TheVariants.{TooLarge}
use Rattle.hunk_loader.specs.ImageReader.{IsRefused}
use Rattle.hunk_tool.specs.Copy.{CopyFits, IsCopied, IsCopyCutShort, IsCopyFault, IsCopyTooLarge, copied, copied_bytes, form_of_copy, stripped_if}
use Rattle.hunk_tool.specs.LinkOptions.{trimmed_if}
use Rattle.hunk_tool.specs.Load.{ends_of}
use Rattle.hunk_tool.specs.ToolFault.{tool_fault_of_link, tool_fault_of_read, tool_fault_of_write}
use Rattle.hunk_tool.specs.declared.copy.CopyForm.{CopyForm}
use Rattle.hunk_tool.specs.declared.copy.CopyForm.TheVariants.{Written, Normal}
use Rattle.hunk_tool.proofs.LinkLemmas.{written_bytes-are_load}

-- ---- the copy

IsLoadFile-stripped_if : (strip : Bool) (hunks : List FileHunk) → IsLoadFile hunks → IsLoadFile (stripped_if strip hunks)
IsLoadFile-stripped_if true hunks is = IsLoadFile-stripped hunks is
IsLoadFile-stripped_if false hunks is = is

IsLoadFile-trimmed_if : (trim : Bool) (hunks : List FileHunk) → IsLoadFile hunks → IsLoadFile (trimmed_if trim hunks)
IsLoadFile-trimmed_if true hunks is = IsLoadFile-trimmed hunks is
IsLoadFile-trimmed_if false hunks is = is

pub IsLoadFile-copied : (form : CopyForm) (hunks : List FileHunk) → IsLoadFile hunks → IsLoadFile (copied form hunks)
IsLoadFile-copied (Written options) hunks is = IsLoadFile-trimmed_if options.trim (stripped_if options.strip hunks) (IsLoadFile-stripped_if options.strip hunks is)
IsLoadFile-copied Normal hunks is = IsLoadFile-normal hunks is

pub copied_bytes-are_load : (form : CopyForm) (hunks : List FileHunk) → IsLoadFile hunks → CopyFits form hunks → IsLoadOf (copied form hunks) (copied_bytes form hunks)
copied_bytes-are_load form hunks is fits =
    let valid = IsLoadFile-copied form hunks is in
    written_bytes-are_load (form_of_copy form) (copied form hunks) valid (written_in-is_short (form_of_copy form) (copied form hunks) valid fits)

-- the form and the hunks that were chosen
pub bytes-copied : (form : CopyForm) (hunks copy : List FileHunk) (written : LoadForm) → written ≡ form_of_copy form → copy ≡ copied form hunks
    → bytes_of (written_in written copy) ≡ copied_bytes form hunks
bytes-copied form hunks copy written form_is copy_is = ap₂ (λ f hs. bytes_of (written_in f hs)) form_is copy_is

-- ---- what was written

pub IsCopied-written : (form : CopyForm) (hunks : List FileHunk) (left left_then old new : Option (List ℕ)) → HasRead left left_then (IsLoadOf hunks) → CopyFits form hunks
    → Appends old new (copied_bytes form hunks) → HasRead left left_then (IsCopied form old new)
IsCopied-written form hunks left left_then old new read fits written =
    HasRead-weaker left left_then (IsLoadOf hunks) (IsCopied form old new) (λ bytes is. record {
      hunks = hunks;
      is_file = is;
      fits = fits;
      is_load = copied_bytes-are_load form hunks (IsLoadFile-load hunks _ is.is_load) fits;
      written = written;
    }) read

-- ---- faults

-- If the file was not read, nothing was written.
pub IsCopyFault-unread : (A : Type 0) (form : CopyForm) (left left_then : Option (List ℕ)) (failed ended : Bool) (taken : Option (List ℕ)) (write_failed : Bool) (fault : ReadFault)
    → RefusesRead Load left left_then ended failed fault → IsCopyFault {A = A} form (ends_of left left_then failed ended taken taken write_failed) (tool_fault_of_read 0 fault)
IsCopyFault-unread A form left left_then failed ended taken write_failed (read_fault.Refused (refusal_is.Fault fault)) (inl offends) =
    (refl, HasRead-weaker left left_then _ (IsRefused fault ended) (λ bytes here. inl here) offends, Keeps-refl taken)
IsCopyFault-unread A form left left_then failed ended taken write_failed (read_fault.Refused (refusal_is.Fault fault)) (inr (at_end, early)) =
    (refl, HasRead-weaker left left_then _ (IsRefused fault ended) (λ bytes here. inr (at_end, here)) early, Keeps-refl taken)
IsCopyFault-unread A form left left_then failed ended taken write_failed (read_fault.Refused refusal_is.OutOfMemory) is = inl (refl, Keeps-refl taken)
IsCopyFault-unread A form left left_then failed ended taken write_failed read_fault.Device is = (refl, is, Keeps-refl taken)

-- nor if its copy carries too much
pub IsCopyFault-large : {A : Type 0} (form : CopyForm) (hunks copy : List FileHunk) (left left_then : Option (List ℕ)) (failed ended : Bool) (taken : Option (List ℕ)) (write_failed : Bool) (refusal : LinkRefusal A)
    → HasRead left left_then (IsLoadOf hunks) → IsTrue ended → copy ≡ copied form hunks → (refusal ≡ TooLarge) × (most_carried < carried_longwords copy)
    → IsCopyFault form (ends_of left left_then failed ended taken taken write_failed) (tool_fault_of_link refusal)
IsCopyFault-large {A} form hunks copy left left_then failed ended taken write_failed refusal read at_end copy_is (is, large) =
    rw is (
      refl,
      at_end,
      HasRead-weaker left left_then (IsLoadOf hunks) (IsCopyTooLarge form)
          (λ bytes file. record { hunks = hunks; is_file = file; large = subst (λ hs. most_carried < carried_longwords hs) copy_is large }) read,
      Keeps-refl taken,
    )

cut_short : (form : CopyForm) (hunks : List FileHunk) (left left_then old new : Option (List ℕ)) (written : ℕ) → HasRead left left_then (IsLoadOf hunks) → CopyFits form hunks
    → TookFront old new (copied_bytes form hunks) written → HasRead left left_then (IsCopyCutShort form old new written)
cut_short form hunks left left_then old new written read fits front =
    HasRead-weaker left left_then (IsLoadOf hunks) (IsCopyCutShort form old new written) (λ bytes is. record { hunks = hunks; is_file = is; fits = fits; front = front }) read

-- where writing the copy stopped
pub IsCopyFault-written : (A : Type 0) {W : Type 0} (taken : W → Option (List ℕ)) (failed : W → Bool) (old new : W) (form : CopyForm) (hunks : List FileHunk) (left left_then : Option (List ℕ)) (read_failed ended : Bool) (fault : WriteFault)
    → HasRead left left_then (IsLoadOf hunks) → IsTrue ended → CopyFits form hunks → WriteStopped taken failed old new (copied_bytes form hunks) fault
    → IsCopyFault {A = A} form (ends_of left left_then read_failed ended (taken old) (taken new) (failed new)) (tool_fault_of_write fault)
IsCopyFault-written A taken failed old new form hunks left left_then read_failed ended (write_fault.Device written) read at_end fits stopped =
    (at_end, cut_short form hunks left left_then (taken old) (taken new) written read fits stopped.0, stopped.1)
IsCopyFault-written A taken failed old new form hunks left left_then read_failed ended (write_fault.OutOfMemory written) read at_end fits stopped =
    inr (at_end, cut_short form hunks left left_then (taken old) (taken new) written read fits stopped.0)
