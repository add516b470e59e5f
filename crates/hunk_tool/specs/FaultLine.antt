-- The line that reports why an operation failed.
use Rattle.std.specs.Prelude.{ℕ, List, [], ◌++◌, slice_index_or, codes}
use Rattle.std.specs.Fmt.{decimal}
use Rattle.hunk_base.specs.declared.fault.Reason.{Reason}
use Rattle.hunk_base.specs.declared.fault.Reason.TheVariants.{PartialLongword, UnexpectedEnd, WrongStart, UnknownType, MisplacedType, UnsupportedBlock, UnsupportedExt, BothMemoryBits, ResidentNames, HunkTable, TooLarge, ContentTooLong, NoSuchHunk, SiteOutside, SiteOverlap, SymbolKind, TrailingData}
use Rattle.hunk_loader.specs.declared.places.PlaceFault.{PlaceFault}
use Rattle.hunk_loader.specs.declared.places.PlaceFault.TheVariants.{WrongCount, PastEnd, Overlap}
use Rattle.hunk_link.specs.declared.refusal.LinkRefusal.{LinkRefusal}
use Rattle.hunk_link.specs.declared.refusal.LinkRefusal.TheVariants as link
use Rattle.hunk_base.specs.Text.{line}
use Rattle.hunk_base.specs.QuotedName.{quoted}
use Rattle.hunk_base.specs.Digits.{eight_digits}
use Rattle.hunk_tool.specs.declared.tool_fault.ToolFault.{ToolFault}
use Rattle.hunk_tool.specs.declared.tool_fault.ToolFault.TheVariants.{Input, InputDevice, Link, Place, Output, OutOfMemory}

-- why a longword is rejected
abbrev pub reason_text : Reason → List ℕ
reason_text PartialLongword = codes "file ends inside a longword"
reason_text UnexpectedEnd = codes "file ends too early"
reason_text WrongStart = codes "wrong first longword"
reason_text (UnknownType type) = codes "unknown block type " ++ decimal type
reason_text (MisplacedType type) = codes "block type " ++ decimal type ++ codes " not allowed here"
reason_text (UnsupportedBlock type) = codes "block type " ++ decimal type ++ codes " not supported"
reason_text (UnsupportedExt type) = codes "external type " ++ decimal type ++ codes " not supported"
reason_text BothMemoryBits = codes "both memory bits set"
reason_text ResidentNames = codes "resident library names not supported"
reason_text HunkTable = codes "bad hunk table"
reason_text TooLarge = codes "too large"
reason_text ContentTooLong = codes "block longer than its hunk"
reason_text (NoSuchHunk hunk) = codes "no hunk " ++ decimal hunk
reason_text (SiteOutside offset) = codes "site " ++ eight_digits offset ++ codes " outside its hunk"
reason_text (SiteOverlap offset) = codes "site " ++ eight_digits offset ++ codes " overlaps another"
reason_text (SymbolKind kind) = codes "symbol of kind " ++ decimal kind
reason_text TrailingData = codes "data after the last hunk"

-- why hunks are not placed
abbrev pub place_text : PlaceFault → List ℕ
place_text WrongCount = codes "wrong number of addresses"
place_text (PastEnd hunk) = codes "hunk " ++ decimal hunk ++ codes " passes the end of memory"
place_text (Overlap earlier later) = codes "hunks " ++ decimal earlier ++ codes " and " ++ decimal later ++ codes " overlap"

-- a hunk of a unit, by their numbers
abbrev pub hunk_of_unit : ℕ → ℕ → List ℕ
hunk_of_unit unit hunk = codes "unit " ++ decimal unit ++ codes " hunk " ++ decimal hunk ++ codes ": "

-- why units do not link
abbrev pub link_text : {A : Type 0} → LinkRefusal A → List ℕ
link_text link.NoHunks = codes "no hunks"
link_text link.TooManyHunks = codes "more than 65535 hunks"
link_text link.TooLarge = codes "too large"
link_text (link.NoSuchHunk unit hunk target) = hunk_of_unit unit hunk ++ codes "no hunk " ++ decimal target ++ codes " in its unit"
link_text (link.DuplicateName unit hunk name) = hunk_of_unit unit hunk ++ quoted name ++ codes " defined again"
link_text (link.UndefinedName unit hunk name) = hunk_of_unit unit hunk ++ quoted name ++ codes " not defined"
link_text link.OutOfMemory = codes "out of memory"

-- the name of the input that the fault is about; empty if it is about none
abbrev pub name_of : {A : Type 0} → List (List ℕ) → ToolFault A → List ℕ
name_of names (Input file fault) = slice_index_or names file []
name_of names (InputDevice file) = slice_index_or names file []
name_of names (Link refusal) = []
name_of names (Place fault) = []
name_of names (Output written) = []
name_of names (OutOfMemory written) = []

-- why an operation failed, if the input that the fault is about has this name
abbrev pub fault_text : {A : Type 0} → (name : List ℕ) → ToolFault A → List ℕ
fault_text name (Input file fault) = name ++ codes ": longword " ++ decimal fault.place ++ codes ": " ++ reason_text fault.reason
fault_text name (InputDevice file) = name ++ codes ": read failed"
fault_text name (Link refusal) = codes "link: " ++ link_text refusal
fault_text name (Place fault) = codes "places: " ++ place_text fault
fault_text name (Output written) = codes "output: write failed"
fault_text name (OutOfMemory written) = codes "out of memory"

-- a line of the program
abbrev pub program_line : List ℕ → List ℕ
program_line text = line (codes "amihunk: " ++ text)

-- the whole line, if the inputs have these names
abbrev pub fault_line : {A : Type 0} → List (List ℕ) → ToolFault A → List ℕ
fault_line names fault = program_line (fault_text (name_of names fault) fault)
