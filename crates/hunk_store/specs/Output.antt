-- What is known of an output before and after a request prints to it.
use Rattle.std.specs.Prelude.{◌≡◌, ℕ, List, [], Bool, IsTrue, Option}
use Rattle.std.specs.Io.KnownBytes.{Appends, Keeps}
use Rattle.hunk_tool.specs.Inputs.{Input}
use Rattle.hunk_tool.specs.Link.{Taken}
use Rattle.hunk_tool.specs.Load.{Ends, ends_of}
use Rattle.hunk_tool.specs.declared.tool_fault.ToolFault.TheVariants.{OutOfMemory}
use Rattle.hunk_store.specs.declared.failure.Failure.{Failure}
use Rattle.hunk_store.specs.declared.failure.Failure.TheVariants.{Printing, Tool}

-- what an output has taken before and after; then, whether a write of it has failed, and which of the bytes
-- that it has taken wait to be flushed
pub record Printed : Type 0 where
  pub old : Option (List ℕ)
  pub new : Option (List ℕ)
  pub failed : Bool
  pub waiting : List ℕ

abbrev pub printed_of : {O : Type 0} (taken : O → Option (List ℕ)) (failed : O → Bool) (waiting : O → List ℕ) → (old new : O) → Printed
printed_of taken failed waiting old new =
    record { old = taken old; new = taken new; failed = failed new; waiting = waiting new }

-- nothing was printed
abbrev pub IsNothing : Printed → Type 0
IsNothing printed = Keeps printed.old printed.new

-- everything that was printed left the output's buffer
abbrev pub IsFlushed : Printed → Type 0
IsFlushed printed = printed.waiting ≡ []

-- the same, as an operation of `hunk_tool` tells of its writer, and of its reader and its writer
abbrev pub taken_by : Printed → Taken
taken_by printed = record { old = printed.old; new = printed.new; failed = printed.failed }

abbrev pub ends_between : Input → Printed → Ends
ends_between input printed =
    ends_of input.left input.left_then input.failed input.ended printed.old printed.new printed.failed

-- this text was printed
abbrev pub IsPrinted : (text : List ℕ) → Printed → Type 0
IsPrinted text printed = Appends printed.old printed.new text × IsFlushed printed

-- the output did not take or pass on everything
abbrev pub IsUnprinted : Printed → Failure → Type 0
IsUnprinted printed failure = (failure ≡ Printing) × IsTrue printed.failed

-- memory ran out before anything was printed
abbrev pub IsExhausted : Printed → Failure → Type 0
IsExhausted printed failure = (failure ≡ Tool (OutOfMemory 0)) × IsNothing printed
