-- What it means that object files were linked and the load file was written, or why it was not.
use Rattle.std.specs.Prelude.{◌≡◌, ◌≢◌, ◌⊎◌, ℕ, List, Bool, IsTrue, Option}
use Rattle.std.specs.Io.KnownBytes.{Appends, Keeps}
use Rattle.std.specs.List.{All}
use Rattle.hunk_base.specs.Name.{bytes_of}
use Rattle.hunk_base.specs.Streams.{TookFront}
use Rattle.hunk_objects.specs.ProgramUnit.{ObjectUnit}
use Rattle.hunk_loadfile.specs.LoadFile.{IsLoadOf}
use Rattle.hunk_loadfile.specs.LoadHunk.{FileHunk}
use Rattle.hunk_loadfile.specs.WrittenForm.{written_in}
use Rattle.hunk_link.specs.Ranks.{IsUnit}
use Rattle.hunk_link.specs.Linkable.{IsLinkRefusal, Linkable}
use Rattle.hunk_link.specs.declared.refusal.LinkRefusal.{LinkRefusal}
use Rattle.hunk_link.specs.declared.refusal.LinkRefusal.TheVariants as link_refusal
use Rattle.hunk_tool.specs.Inputs.{AreObjects, HaveRead, Input, IsInputFault}
use Rattle.hunk_tool.specs.LinkOptions.{form_of, trimmed_if}
use Rattle.hunk_tool.specs.LinkedUnits.{carried_with, linked_units, strips}
use Rattle.hunk_tool.specs.declared.link_options.LinkOptions.{LinkOptions}
use Rattle.hunk_tool.specs.declared.tool_fault.ToolFault.{ToolFault}
use Rattle.hunk_tool.specs.declared.tool_fault.ToolFault.TheVariants.{Link, Output, OutOfMemory}

-- The files are object files whose units, these, link.
pub record DoLink (globals strip : Bool) (files : List (List ℕ)) (units : List ObjectUnit) : Type 0 where
  pub are : AreObjects files units
  pub typed : All IsUnit (linked_units globals strip units)
  pub linkable : Linkable (linked_units globals strip units) (strips globals strip)

-- the hunks of the load file that is written
abbrev pub linked_hunks : List ObjectUnit → (globals : Bool) → LinkOptions → List FileHunk
linked_hunks units globals options = trimmed_if options.trim (carried_with globals options.strip units)

-- its bytes
abbrev pub linked_bytes : List ObjectUnit → (globals : Bool) → LinkOptions → List ℕ
linked_bytes units globals options = bytes_of (written_in (form_of options) (linked_hunks units globals options))

-- The object files link, and the bytes of the load file, which is that of their hunks, were written.
pub record IsLinked (globals : Bool) (options : LinkOptions) (old new : Option (List ℕ)) (files : List (List ℕ)) : Type 0 where
  pub units : List ObjectUnit
  pub link : DoLink globals options.strip files units
  pub is_load : IsLoadOf (linked_hunks units globals options) (linked_bytes units globals options)
  pub written : Appends old new (linked_bytes units globals options)

-- The object files link, and the writer took exactly the first `written` bytes of the load file.
pub record IsLinkCutShort (globals : Bool) (options : LinkOptions) (old new : Option (List ℕ)) (written : ℕ) (files : List (List ℕ)) : Type 0 where
  pub units : List ObjectUnit
  pub link : DoLink globals options.strip files units
  pub front : TookFront old new (linked_bytes units globals options) written

-- The object files link, and this is the load file of their units, before it is trimmed.
pub record LinkTo (globals strip : Bool) (file : List FileHunk) (files : List (List ℕ)) : Type 0 where
  pub units : List ObjectUnit
  pub link : DoLink globals strip files units
  pub file_is : file ≡ carried_with globals strip units

-- The object files do not link, first of all for this reason.
pub record IsNotLinked {A : Type 0} (globals strip : Bool) (refusal : LinkRefusal A) (files : List (List ℕ)) : Type 0 where
  pub units : List ObjectUnit
  pub are : AreObjects files units
  pub first : IsLinkRefusal (linked_units globals strip units) (strips globals strip) refusal

-- Why object files were not linked.
abbrev pub IsUnlinked : {A : Type 0} → (globals strip : Bool) → List Input → ToolFault A → Type 0
IsUnlinked globals strip inputs (Link refusal) = HaveRead inputs (IsNotLinked globals strip refusal) × (refusal ≢ link_refusal.OutOfMemory)
IsUnlinked globals strip inputs fault = IsInputFault inputs fault

-- What the writer took before and after a call, and whether a write has failed.
pub record Taken : Type 0 where
  pub old : Option (List ℕ)
  pub new : Option (List ℕ)
  pub failed : Bool

-- Why the load file was not written, or not in full. Nothing was written before all inputs were read
-- and their units linked.
abbrev pub IsLinkFault : {A : Type 0} → (globals : Bool) → LinkOptions → List Input → Taken → ToolFault A → Type 0
IsLinkFault globals options inputs taken (Output written) = HaveRead inputs (IsLinkCutShort globals options taken.old taken.new written) × IsTrue taken.failed
IsLinkFault globals options inputs taken (OutOfMemory written) = ((written ≡ 0) × Keeps taken.old taken.new) ⊎ HaveRead inputs (IsLinkCutShort globals options taken.old taken.new written)
IsLinkFault globals options inputs taken fault = IsUnlinked globals options.strip inputs fault × Keeps taken.old taken.new
