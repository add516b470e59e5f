-- What a linker has taken, and why it does not link.
use Rattle.std.specs.Global.{Global}
use Rattle.std.specs.Prelude.{◌≡◌, ◌≢◌, ℕ, ◌+◌, List, [], ◌∷◌, ◌++◌, length, Option, Some, None, Vec, Bool, true, false}
use Rattle.hunk_words.specs.Decoder.{refusal_of}
use Rattle.hunk_words.specs.declared.decoder.Decoder.{Decoder}
use Rattle.hunk_objects.specs.ObjectDecoder.{StandsFor}
use Rattle.hunk_objects.specs.ProgramUnit.{IsObjectOf, ObjectUnit}
use Rattle.hunk_objects.specs.declared.unit_builder.UnitBuilder.{UnitBuilder}
use Rattle.hunk_link.specs.declared.refusal.LinkRefusal.{LinkRefusal}
use Rattle.hunk_link.specs.declared.refusal.LinkRefusal.TheVariants as link
use Rattle.hunk_tool.specs.Link.{IsNotLinked}
use Rattle.hunk_tool.specs.ObjectFiles.{AreFileUnits, FileUnit, units_of}
use Rattle.hunk_origins.specs.UndefinedName.{UndefinedName, undefined_names}
use Rattle.hunk_tool.specs.declared.tool_fault.ToolFault.{ToolFault}
use Rattle.hunk_tool.specs.declared.tool_fault.ToolFault.TheVariants.{Link, OutOfMemory}
use Rattle.amihunk_c.specs.Refusals.{link_refused, memory_refused}
use Rattle.amihunk_c.specs.declared.linker.Linker.{Linker}
use Rattle.amihunk_c.specs.declared.linker.LinkerOptions.{LinkerOptions}
use Rattle.amihunk_c.specs.declared.refused.Refused.{Refused}

-- ---- the inputs

-- Each of these files is an object file, these are the units of all, in order, and for each file the
-- number of units up to its end, from this number on.
abbrev pub AreInputs : (first : ℕ) → List (List ℕ) → List ObjectUnit → List ℕ → Type 0
AreInputs first [] units ends = (units ≡ []) × (ends ≡ [])
AreInputs first (bytes ∷ files) units ends =
    (own : List ObjectUnit) × (others : List ObjectUnit) × (later : List ℕ) × IsObjectOf own bytes × AreInputs (first + length own) files others later
    × (units ≡ own ++ others) × (ends ≡ (first + length own) ∷ later)

-- the current input has begun with these bytes, or none has
abbrev pub Reads : {A : Type 0} → Option (List ℕ) → Option (Decoder (UnitBuilder A)) → Type 0
Reads None None = Unit {0}
Reads (Some bytes) (Some decoder) = StandsFor decoder bytes × (refusal_of decoder ≡ None)
Reads current decoder = ⊥

-- the bytes of the current input; none if it has not begun
abbrev pub begun : Option (List ℕ) → List ℕ
begun None = []
begun (Some bytes) = bytes

-- These are the units of the object files, each with its place, and the numbers of units up to the end
-- of each file.
pub record AreTaken (files : List (List ℕ)) (units : List FileUnit) (ends : List ℕ) : Type 0 where
  pub are : AreFileUnits units files
  pub inputs : AreInputs 0 files (units_of units) ends

-- With these options, the inputs that have ended were these files, and the current one has begun with
-- these bytes.
pub record HasTaken (options : LinkerOptions) (files : List (List ℕ)) (current : Option (List ℕ)) (linker : Linker) : Type 0 where
  pub options_are : linker.options ≡ options
  pub taken : AreTaken files linker.files linker.ends.items
  pub reads : Reads current linker.current

-- ---- refusals

-- The refusal is told with the number of inputs that end before its unit: the number of the unit's
-- own input.
pub record TellsInput (files : List (List ℕ)) (refusal : LinkRefusal Global) (refused : Refused) : Type 0 where
  pub units : List ObjectUnit
  pub ends : List ℕ
  pub inputs : AreInputs 0 files units ends
  pub told : refused ≡ record (link_refused refusal ends) { undefined = refused.undefined }

-- a name is not defined
abbrev pub IsUndefined : LinkRefusal Global → Type 0
IsUndefined (link.UndefinedName unit hunk name) = Unit {0}
IsUndefined refusal = ⊥

-- all names that the units refer to and none of them defines, if such a name is the refusal
abbrev pub TellsUndefined : List FileUnit → LinkRefusal Global → Option (Vec UndefinedName Global) → Type 0
TellsUndefined units (link.UndefinedName unit hunk name) (Some names) = names.items ≡ undefined_names units
TellsUndefined units (link.UndefinedName unit hunk name) None = ⊥
TellsUndefined units refusal told = told ≡ None

-- the same of the units of these files, if they are kept
abbrev pub TellsNames : (keep : Bool) → List (List ℕ) → LinkRefusal Global → Option (Vec UndefinedName Global) → Type 0
TellsNames true files refusal told = (units : List FileUnit) × AreFileUnits units files × TellsUndefined units refusal told
TellsNames false files refusal told = told ≡ None

-- Why the files were not linked: the first reason, or that an allocation failed once the hunks were
-- known to be neither too many nor too large.
abbrev pub IsLinkStop : LinkerOptions → List (List ℕ) → Refused → ToolFault Global → Type 0
IsLinkStop options files refused (Link refusal) =
    IsNotLinked false options.link.strip refusal files × (refusal ≢ link.OutOfMemory) × TellsInput files refusal refused × TellsNames options.keep files refusal refused.undefined
IsLinkStop options files refused (OutOfMemory written) = IsNotLinked {A = Global} false options.link.strip link.OutOfMemory files × (refused ≡ memory_refused)
IsLinkStop options files refused fault = ⊥
