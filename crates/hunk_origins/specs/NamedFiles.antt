-- The files whose names are listed, and why they were not read.
use Rattle.std.specs.Prelude.{◌≡◌, ℕ, List, [], ◌∷◌, IsTrue}
use Rattle.hunk_base.specs.Streams.{HasRead}
use Rattle.hunk_files.specs.FileDecoder.{IsRefused}
use Rattle.hunk_loadfile.specs.LoadFile.{IsLoadOf}
use Rattle.hunk_tool.specs.Inputs.{Input, IsInputFault}
use Rattle.hunk_tool.specs.ObjectFiles.{AreFileUnits}
use Rattle.hunk_origins.specs.declared.named_files.NamedFiles.{NamedFiles}
use Rattle.hunk_origins.specs.declared.named_files.NamedFiles.TheVariants.{Load, Objects}
use Rattle.hunk_tool.specs.declared.tool_fault.ToolFault.{ToolFault}
use Rattle.hunk_tool.specs.declared.tool_fault.ToolFault.TheVariants.{Input as InputFault, InputDevice, OutOfMemory}

-- The bytes are one load file, or object files, with these values.
abbrev pub AreNamedFiles : {A : Type 0} → NamedFiles A → List (List ℕ) → Type 0
AreNamedFiles (Load hunks) (bytes ∷ []) = IsLoadOf hunks bytes
AreNamedFiles (Load hunks) files = ⊥
AreNamedFiles (Objects units) files = AreFileUnits units files

-- Why an input alone was not read: it is rejected for its kind, or a read failed, or an allocation.
abbrev pub IsFileFault : {A : Type 0} → Input → ToolFault A → Type 0
IsFileFault input (InputFault file fault) = (file ≡ 0) × HasRead input.left input.left_then (IsRefused fault input.ended)
IsFileFault input (InputDevice file) = (file ≡ 0) × IsTrue input.failed
IsFileFault input (OutOfMemory written) = written ≡ 0
IsFileFault input fault = ⊥

-- Why the inputs were not read: several are read as object files.
abbrev pub AreRefused : {A : Type 0} → List Input → ToolFault A → Type 0
AreRefused (input ∷ []) fault = IsFileFault input fault
AreRefused inputs fault = IsInputFault inputs fault
