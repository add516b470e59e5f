-- The exit status that ends the program, and the line on standard error.
use Rattle.std.specs.Prelude.{◌≡◌, ◌⊎◌, ℕ, List, [], Bool, Option}
use Rattle.hunk_tool.specs.declared.tool_fault.ToolFault.TheVariants as tool_fault
use Rattle.hunk_store.specs.Failure.{TellsLine, failure_line}
use Rattle.hunk_store.specs.declared.failure.Failure.TheVariants.{Tool}
use Rattle.hunk_commands.specs.Request.{Ends, Refuses, Run}
use Rattle.hunk_commands.specs.declared.request.Request.{Request}
use Rattle.hunk_commands.specs.declared.request.Request.TheVariants.{OutOfMemory}
use Rattle.amihunk.specs.Call.{Means}
use Rattle.amihunk.specs.Arguments.{AreArguments, IsAskedByAll}
use Rattle.amihunk.specs.declared.arguments.Argument.{Argument}
use Rattle.amihunk.specs.CommandLine.{IsAskedBy}
use Rattle.amihunk.specs.Call.Meaning.{rejection}

-- the status after a command line: that of the request that its arguments make
pub record EndsLine {W : Type 0} (run : Run) (taken : W → Option (List ℕ)) (failed : W → Bool) (old new : W) (words : List (List ℕ)) (status : ℕ) : Type 0 where
  pub request : Request
  pub asked : IsAskedBy words request
  pub ends : Ends run taken failed old new request status

-- what a start asks for: what the arguments ask for, or nothing, since there is no memory for them
abbrev pub IsStart : Request → Type 0
IsStart request = ((arguments : List Argument) × AreArguments arguments × IsAskedByAll arguments request) ⊎ (request ≡ OutOfMemory)

-- memory ran out before anything was begun, and this was told
abbrev pub IsNotBegun : {W : Type 0} (taken : W → Option (List ℕ)) (failed : W → Bool) (old new : W) (status : ℕ) → Type 0
IsNotBegun taken failed old new status = (status ≡ 4) × TellsLine taken failed old new (failure_line [] (Tool (tool_fault.OutOfMemory 0)))

-- the words were rejected: nothing was done, and a text was told; or memory ran out
abbrev pub IsRejected : {W : Type 0} → Run → (taken : W → Option (List ℕ)) (failed : W → Bool) (old new : W) (status : ℕ) → Type 0
IsRejected run taken failed old new status =
    Refuses run (((status ≡ 2) × ((text : List ℕ) × TellsLine taken failed old new text)) ⊎ IsNotBegun taken failed old new status)

-- the status after a start: that of the request that it makes
pub record EndsStart {W : Type 0} (run : Run) (taken : W → Option (List ℕ)) (failed : W → Bool) (old new : W) (status : ℕ) : Type 0 where
  pub request : Request
  pub is_start : IsStart request
  pub ends : Ends run taken failed old new request status
