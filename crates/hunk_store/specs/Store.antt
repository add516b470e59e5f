-- What is known of the files of a store before and after one of them is replaced.
use Rattle.std.specs.Prelude.{◌≡◌, ◌≢◌, ◌⊎◌, ℕ, List, [], Option, Some, None, Result, Ok, Err, ⊤}
use Rattle.std.specs.declared.alloc.Global.{Global}
use Rattle.hunk_base.specs.declared.fault.WriteFault.{WriteFault}
use Rattle.hunk_tool.specs.FileSystem.{FileContent}
use Rattle.hunk_tool.specs.FileSystem.FileContent.{unknown, missing, known}
use Rattle.hunk_tool.specs.ToolFault.{tool_fault_of_write}
use Rattle.hunk_tool.specs.declared.tool_fault.ToolFault.{ToolFault}
use Rattle.hunk_tool.specs.declared.tool_fault.ToolFault.TheVariants.{Output, OutOfMemory}
use Rattle.hunk_store.specs.declared.failure.Failure.{Failure}
use Rattle.hunk_store.specs.declared.failure.Failure.TheVariants.{Opening, Printing, Tool}

-- what is known of each file, by its name
abbrev pub Contents : Type 0
Contents = List ℕ → FileContent

-- it is known whether there is a file, and what is in it
abbrev pub IsKnown : FileContent → Type 0
IsKnown unknown = ⊥
IsKnown missing = ⊤
IsKnown (known bytes) = ⊤

-- no file was touched
abbrev pub AreUnchanged : (old new : Contents) → Type 0
AreUnchanged old new = (name : List ℕ) → new name ≡ old name

-- what is known of a file in whose place these bytes were put
abbrev pub content_of : Option (List ℕ) → FileContent
content_of None = unknown
content_of (Some bytes) = known bytes

-- What a writer took was put in the place of the file with this name, and no other file was touched.
pub record IsReplaced (name : List ℕ) (taken : Option (List ℕ)) (old new : Contents) : Type 0 where
  pub placed : IsKnown (old name) → new name ≡ content_of taken
  pub others : (other : List ℕ) → other ≢ name → new other ≡ old other

-- what a writer has taken that was begun for a file
abbrev pub IsBegun : FileContent → (taken : Option (List ℕ)) → Type 0
IsBegun content taken = IsKnown content → taken ≡ Some []

-- ---- why a file was not replaced

-- What was written, in full, was not put in the place of the file with this name: out of memory; or, if
-- the file is not known, it cannot be opened or replaced, or it did not take everything.
abbrev pub IsUnplaced : FileContent → (name : List ℕ) → Failure → Type 0
IsUnplaced content name (Opening file reason) = (file.now ≡ name) × (content ≡ unknown)
IsUnplaced content name Printing = content ≡ unknown
IsUnplaced content name (Tool fault) = fault ≡ OutOfMemory 0
IsUnplaced content name _ = ⊥

-- what a write returned, as a run returns it
abbrev pub run_of : Result (Unit {0}) WriteFault → Result (Unit {0}) (ToolFault Global)
run_of (Ok done) = Ok done
run_of (Err fault) = Err (tool_fault_of_write fault)

-- a run ended well
abbrev pub HasRun : Result (Unit {0}) (ToolFault Global) → Type 0
HasRun (Ok done) = ⊤
HasRun (Err fault) = ⊥

-- a write of the run failed
abbrev pub IsWriteFault : ToolFault Global → Type 0
IsWriteFault (Output written) = ⊤
IsWriteFault fault = ⊥

-- why a file was not replaced by what a run wrote: the fault of the run; or, if the run wrote everything
-- or a write of it failed, why what it wrote was not put there. That a write failed is told of a file alone that
-- is not known.
abbrev pub IsCauseOf : Result (Unit {0}) (ToolFault Global) → FileContent → (name : List ℕ) → Failure → Type 0
IsCauseOf (Ok done) content name failure = IsUnplaced content name failure
IsCauseOf (Err fault) content name failure = ((failure ≡ Tool fault) × (IsWriteFault fault → content ≡ unknown)) ⊎ (IsWriteFault fault × IsUnplaced content name failure)
