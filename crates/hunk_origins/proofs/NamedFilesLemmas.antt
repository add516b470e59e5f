-- One file alone, and several.
use Rattle.std.proofs.Common.{◌≢◌, ℕ, List, [], ◌∷◌, ◌++◌, length, refl}
use Rattle.hunk_words.specs.declared.event.FileKind.{FileKind}
use Rattle.hunk_words.specs.declared.event.FileKind.TheVariants as kind_is
use Rattle.hunk_loadfile.specs.LoadFile.{IsLoadOf}
use Rattle.hunk_loadfile.specs.LoadHunk.{FileHunk}
use Rattle.hunk_objects.specs.ProgramUnit.{IsObjectOf, ObjectUnit}
use Rattle.hunk_files.specs.FileValue.{IsOfItsKind, IsOfKind, kind_of_bytes}
use Rattle.hunk_files.specs.FileValue.FileValue.{load_file, object_file}
use Rattle.hunk_tool.specs.Inputs.{Input, IsInputFault}
use Rattle.hunk_origins.specs.NamedFiles.{AreRefused}
use Rattle.hunk_tool.specs.ObjectFiles.{AreFileUnits, placed}
use Rattle.hunk_tool.specs.declared.tool_fault.ToolFault.{ToolFault}
use Rattle.hunk_tool.proofs.ObjectFilesLemmas.{AreUnitsFrom-more}

load_of : (kind : FileKind) (hunks : List FileHunk) (bytes : List ℕ) → IsOfKind kind (load_file hunks) bytes → IsLoadOf hunks bytes
load_of kind_is.Load hunks bytes is = is
load_of kind_is.Object hunks bytes is = absurd is

-- a load file that was read by its kind
pub IsLoadOf-of_its_kind : (hunks : List FileHunk) (bytes : List ℕ) → IsOfItsKind (load_file hunks) bytes → IsLoadOf hunks bytes
IsLoadOf-of_its_kind hunks bytes is = load_of (kind_of_bytes bytes) hunks bytes is

object_of : (kind : FileKind) (units : List ObjectUnit) (bytes : List ℕ) → IsOfKind kind (object_file units) bytes → IsObjectOf units bytes
object_of kind_is.Object units bytes is = is
object_of kind_is.Load units bytes is = absurd is

-- an object file that was read by its kind
pub AreFileUnits-of_its_kind : (units : List ObjectUnit) (bytes : List ℕ) → IsOfItsKind (object_file units) bytes → AreFileUnits ([] ++ placed 0 units) (bytes ∷ [])
AreFileUnits-of_its_kind units bytes is = AreUnitsFrom-more 0 [] bytes [] units refl (object_of (kind_of_bytes bytes) units bytes is)

-- other than one
pub AreRefused-several : {A : Type 0} (inputs : List Input) (fault : ToolFault A) → length inputs ≢ 1 → IsInputFault inputs fault → AreRefused inputs fault
AreRefused-several [] fault several is = is
AreRefused-several (input ∷ []) fault several is = absurd (several refl)
AreRefused-several (input ∷ other ∷ inputs) fault several is = is
