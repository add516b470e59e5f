-- What a copy of a load file is, and what it means that one was written, or why it was not.
use Rattle.std.specs.Prelude.{◌≡◌, ◌⊎◌, ℕ, ◌<◌, ◌≤◌, List, Bool, if◌then◌else◌, IsTrue, Option}
use Rattle.std.specs.Io.KnownBytes.{Appends, Keeps}
use Rattle.hunk_base.specs.Name.{bytes_of}
use Rattle.hunk_base.specs.Streams.{HasRead, TookFront}
use Rattle.hunk_loadfile.specs.LoadFile.{IsLoadOf}
use Rattle.hunk_loadfile.specs.LoadHunk.{FileHunk}
use Rattle.hunk_loadfile.specs.NormalForm.{normal_form}
use Rattle.hunk_loadfile.specs.Rules.{carried_longwords, most_carried}
use Rattle.hunk_loadfile.specs.Stripping.{stripped}
use Rattle.hunk_loadfile.specs.WrittenForm.{written_in}
use Rattle.hunk_loadfile.specs.declared.load_form.LoadForm.{LoadForm}
use Rattle.hunk_loadfile.specs.declared.load_form.LoadForm.TheVariants.{Plain}
use Rattle.hunk_link.specs.declared.refusal.LinkRefusal.TheVariants as link_refusal
use Rattle.hunk_loader.specs.ImageReader.{IsRefused}
use Rattle.hunk_tool.specs.LinkOptions.{form_of, trimmed_if}
use Rattle.hunk_tool.specs.Load.{Ends}
use Rattle.hunk_tool.specs.declared.copy.CopyForm.{CopyForm}
use Rattle.hunk_tool.specs.declared.copy.CopyForm.TheVariants.{Written, Normal}
use Rattle.hunk_tool.specs.declared.tool_fault.ToolFault.{ToolFault}
use Rattle.hunk_tool.specs.declared.tool_fault.ToolFault.TheVariants.{Input, InputDevice, Link, Place, Output, OutOfMemory}

-- ---- a copy

abbrev pub stripped_if : Bool → List FileHunk → List FileHunk
stripped_if strip hunks = if strip then stripped hunks else hunks

-- the form in which it is written
abbrev pub form_of_copy : CopyForm → LoadForm
form_of_copy (Written options) = form_of options
form_of_copy Normal = Plain

-- its hunks
abbrev pub copied : CopyForm → List FileHunk → List FileHunk
copied (Written options) hunks = trimmed_if options.trim (stripped_if options.strip hunks)
copied Normal hunks = normal_form hunks

-- its bytes
abbrev pub copied_bytes : CopyForm → List FileHunk → List ℕ
copied_bytes form hunks = bytes_of (written_in (form_of_copy form) (copied form hunks))

-- Its symbols and debug blocks take no more longwords than those of a file that is linked may take.
abbrev pub CopyFits : CopyForm → List FileHunk → Type 0
CopyFits form hunks = carried_longwords (copied form hunks) ≤ most_carried

-- ---- what was read and written

-- The bytes are the load file of these hunks, and the bytes of the copy, which is that of its hunks, were
-- written.
pub record IsCopied (form : CopyForm) (old new : Option (List ℕ)) (bytes : List ℕ) : Type 0 where
  pub hunks : List FileHunk
  pub is_file : IsLoadOf hunks bytes
  pub fits : CopyFits form hunks
  pub is_load : IsLoadOf (copied form hunks) (copied_bytes form hunks)
  pub written : Appends old new (copied_bytes form hunks)

-- The bytes are the load file of these hunks, and the writer took exactly the first `written` bytes of the copy.
pub record IsCopyCutShort (form : CopyForm) (old new : Option (List ℕ)) (written : ℕ) (bytes : List ℕ) : Type 0 where
  pub hunks : List FileHunk
  pub is_file : IsLoadOf hunks bytes
  pub fits : CopyFits form hunks
  pub front : TookFront old new (copied_bytes form hunks) written

-- The bytes are the load file of these hunks, whose copy carries too much.
pub record IsCopyTooLarge (form : CopyForm) (bytes : List ℕ) : Type 0 where
  pub hunks : List FileHunk
  pub is_file : IsLoadOf hunks bytes
  pub large : most_carried < carried_longwords (copied form hunks)

-- Why a copy was not written, or not in full. Nothing was written before the reader ended.
abbrev pub IsCopyFault : {A : Type 0} → CopyForm → Ends → ToolFault A → Type 0
IsCopyFault form ends (Input file fault) = (file ≡ 0) × HasRead ends.left ends.left_then (IsRefused fault ends.ended) × Keeps ends.taken ends.taken_then
IsCopyFault form ends (InputDevice file) = (file ≡ 0) × IsTrue ends.read_failed × Keeps ends.taken ends.taken_then
IsCopyFault form ends (Link refusal) =
    (refusal ≡ link_refusal.TooLarge) × IsTrue ends.ended × HasRead ends.left ends.left_then (IsCopyTooLarge form) × Keeps ends.taken ends.taken_then
IsCopyFault form ends (Place fault) = ⊥
IsCopyFault form ends (Output written) =
    IsTrue ends.ended × HasRead ends.left ends.left_then (IsCopyCutShort form ends.taken ends.taken_then written) × IsTrue ends.write_failed
IsCopyFault form ends (OutOfMemory written) =
    ((written ≡ 0) × Keeps ends.taken ends.taken_then)
    ⊎ (IsTrue ends.ended × HasRead ends.left ends.left_then (IsCopyCutShort form ends.taken ends.taken_then written))
