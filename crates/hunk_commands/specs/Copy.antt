-- What is known of a load file and of OUT after `copy`, or why it failed.
use Rattle.std.specs.Prelude.{◌≡◌, ◌⊎◌, ℕ, List, Option}
use Rattle.std.specs.declared.alloc.Global.{Global}
use Rattle.hunk_loadfile.specs.LoadFile.{IsLoadOf}
use Rattle.hunk_loadfile.specs.LoadHunk.{FileHunk}
use Rattle.hunk_tool.specs.Copy.{CopyFits, IsCopied, IsCopyFault}
use Rattle.hunk_tool.specs.FileSystem.{MayBeMissing, OfFile, OfWholeFile}
use Rattle.hunk_tool.specs.FileSystem.FileContent.{unknown}
use Rattle.hunk_tool.specs.declared.tool_fault.ToolFault.{ToolFault}
use Rattle.hunk_tool.specs.declared.copy.CopyForm.{CopyForm}
use Rattle.hunk_tool.specs.declared.tool_fault.ToolFault.TheVariants.{OutOfMemory}
use Rattle.hunk_store.specs.Output.{Printed, ends_between}
use Rattle.hunk_store.specs.Store.{Contents, IsBegun, IsReplaced, IsUnplaced, IsWriteFault}
use Rattle.hunk_store.specs.declared.failure.Failure.{Failure}
use Rattle.hunk_store.specs.declared.failure.Failure.TheVariants.{Opening, Tool}

-- the file is a load file, and its copy was put in the place of OUT
pub record IsCopiedOut (form : CopyForm) (contents : Contents) (file out : List ℕ) (contents_then : Contents) : Type 0 where
  pub start : Option (List ℕ)
  pub taken : Option (List ℕ)
  pub begun : IsBegun (contents out) start
  pub copied : OfWholeFile (contents file) (IsCopied form start taken)
  pub replaced : IsReplaced out taken contents contents_then

-- `copy_run` returned this fault for a reader of the file, and for a writer, of which a write failed only if OUT is
-- not known
abbrev pub HasCopyFault : CopyForm → Contents → (file out : List ℕ) → ToolFault Global → Type 0
HasCopyFault form contents file out fault =
    OfFile (contents file) (λ input. (printed : Printed) × IsCopyFault form (ends_between input printed) fault) × (IsWriteFault fault → contents out ≡ unknown)

-- why the copy was not made: the file cannot be opened, `copy_run` returned this fault for it, or out of memory
abbrev pub IsUncopied : CopyForm → Contents → (file out : List ℕ) → Failure → Type 0
IsUncopied form contents file out (Opening name reason) = (name.now ≡ file) × MayBeMissing (contents file)
IsUncopied form contents file out (Tool fault) = (fault ≡ OutOfMemory 0) ⊎ HasCopyFault form contents file out fault
IsUncopied form contents file out _ = ⊥

-- the file is a load file of which a copy in this form can be written
abbrev pub HasCopy : CopyForm → Contents → (file : List ℕ) → Type 0
HasCopy form contents file = OfWholeFile (contents file) (λ bytes. (hunks : List FileHunk) × IsLoadOf hunks bytes × CopyFits form hunks)

-- why `copy` failed: the copy was not made, or it was not put in the place of OUT, which is not touched before
-- the whole file has been read as a load file
abbrev pub IsCopyFailure : CopyForm → Contents → (file out : List ℕ) → Failure → Type 0
IsCopyFailure form contents file out failure =
    IsUncopied form contents file out failure ⊎ (HasCopy form contents file × IsUnplaced (contents out) out failure)
