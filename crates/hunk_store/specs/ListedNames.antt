-- Why a name in a list is no text.
use Rattle.std.specs.Borrow.{Bor}
use Rattle.std.specs.Prelude.{◌≡◌, ℕ, List}
use Rattle.std.specs.Str.{IsUtf8}
use Rattle.hunk_tool.specs.declared.tool_fault.ToolFault.TheVariants.{OutOfMemory}
use Rattle.hunk_store.specs.declared.failure.Failure.{Failure}
use Rattle.hunk_store.specs.declared.failure.Failure.TheVariants.{BadName, Tool}

-- the name is not UTF-8, and the failure tells its index and the list; or out of memory
abbrev pub IsNoText : (file : Bor (List ℕ)) (index : ℕ) (name : List ℕ) → Failure → Type 0
IsNoText file index name (BadName list number) = (list ≡ file) × (number ≡ index) × (IsUtf8 name → ⊥)
IsNoText file index name (Tool fault) = fault ≡ OutOfMemory 0
IsNoText file index name _ = ⊥
