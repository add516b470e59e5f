-- Why a failure is not explained, and the line that tells it.
use Rattle.std.specs.Prelude.{◌++◌, ℕ, List, Bool, true, false, codes, if◌then◌else◌}
use Rattle.hunk_base.specs.Text.{line}
use Rattle.hunk_base.specs.declared.fault.ReadFault.{ReadFault}
use Rattle.hunk_base.specs.declared.fault.ReadFault.TheVariants as read_fault
use Rattle.hunk_base.specs.declared.fault.Refusal.TheVariants as refusal_is
use Rattle.hunk_store.specs.declared.failure.Failure.{Failure}
use Rattle.hunk_store.specs.declared.failure.Failure.TheVariants as failure_is
use Rattle.hunk_commands.specs.declared.unexplained.Unexplained.{Unexplained}
use Rattle.hunk_commands.specs.declared.unexplained.Unexplained.TheVariants.{Changed, NotRegular, OutOfMemory}
use Rattle.hunk_tool.specs.declared.tool_fault.ToolFault.TheVariants as tool_fault

-- a failure is that memory ran out
abbrev pub is_exhausted : Failure → Bool
is_exhausted (failure_is.Tool (tool_fault.OutOfMemory written)) = true
is_exhausted failure = false

-- why nothing is explained where reading files again ends with this failure
abbrev pub unexplained_of : Failure → Unexplained
unexplained_of failure = if is_exhausted failure then OutOfMemory else Changed

-- and with this fault of a read
abbrev pub unexplained_of_read : ReadFault → Unexplained
unexplained_of_read (read_fault.Refused (refusal_is.Fault fault)) = Changed
unexplained_of_read (read_fault.Refused refusal_is.OutOfMemory) = OutOfMemory
unexplained_of_read read_fault.Device = Changed

-- the words for it
abbrev pub unexplained_text : Unexplained → List ℕ
unexplained_text OutOfMemory = codes "out of memory"
unexplained_text NotRegular = codes "only regular files can be read again"
unexplained_text Changed = codes "a file has changed, or cannot be read again"

-- the line that tells it, after two spaces
abbrev pub unexplained_line : Unexplained → List ℕ
unexplained_line why = line (codes "  not explained: " ++ unexplained_text why)
