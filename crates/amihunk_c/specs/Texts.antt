-- What C is told of a refusal in words.
use Rattle.std.specs.Global.{Global}
use Rattle.std.specs.Prelude.{◌≡◌, ◌⊎◌, ℕ, List, [], ◌∷◌, length, Option, None, Some}
use Rattle.hunk_link.specs.declared.refusal.LinkRefusal.{LinkRefusal}
use Rattle.hunk_link.specs.declared.refusal.LinkRefusal.TheVariants.{DuplicateName, UndefinedName}
use Rattle.hunk_tool.specs.FaultLine.{fault_line}
use Rattle.hunk_tool.specs.declared.tool_fault.ToolFault.{ToolFault}
use Rattle.hunk_tool.specs.declared.tool_fault.ToolFault.TheVariants.{Link}
use Rattle.amihunk_c.specs.Copying.{laid_over}
use Rattle.amihunk_c.specs.declared.session.Session.{Session}
use Rattle.amihunk_c.specs.declared.session.Session.TheVariants.{Stopped}

-- ---- the name

-- the name that a refusal of units tells; empty if it tells none
abbrev pub link_name : LinkRefusal Global → List ℕ
link_name (DuplicateName unit hunk name) = name
link_name (UndefinedName unit hunk name) = name
link_name refusal = []

abbrev pub fault_name : ToolFault Global → List ℕ
fault_name (Link refusal) = link_name refusal
fault_name fault = []

abbrev pub refusal_name : Session → List ℕ
refusal_name (Stopped refused) = fault_name refused.fault
refusal_name session = []

-- ---- the line

-- nothing is told
abbrev pub TellsNothing : (old new : List ℕ) → ℕ → Type 0
TellsNothing old new count = (new ≡ old) × (count ≡ 0)

-- the whole length of a text is told, and the buffer has as much of it as fits
abbrev pub TellsText : (text old new : List ℕ) → ℕ → Type 0
TellsText text old new count = (new ≡ laid_over text old) × (count ≡ length text)

-- The line of the program for this fault is told, in which its input has this name; nothing is told if
-- an allocation failed.
abbrev pub TellsFault : List ℕ → ToolFault Global → (old new : List ℕ) → ℕ → Type 0
TellsFault file fault old new count = TellsText (fault_line (file ∷ []) fault) old new count ⊎ TellsNothing old new count

abbrev pub TellsRefusal : List ℕ → Session → (old new : List ℕ) → ℕ → Type 0
TellsRefusal file (Stopped refused) old new count = TellsFault file refused.fault old new count
TellsRefusal file session old new count = TellsNothing old new count

abbrev pub TellsLine : List ℕ → Option Session → (old new : List ℕ) → ℕ → Type 0
TellsLine file None old new count = TellsNothing old new count
TellsLine file (Some session) old new count = TellsRefusal file session old new count
