-- The exit status of the program for each failure, and the line that tells it.
use Rattle.std.specs.declared.alloc.Global.{Global}
use Rattle.std.specs.Prelude.{◌≡◌, ◌⊎◌, ◌++◌, ℕ, List, Bool, Option, codes, decimal}
use Rattle.std.specs.Io.KnownBytes.{Appends}
use Rattle.hunk_base.specs.Streams.{WriteStopped}
use Rattle.hunk_base.specs.Text.{line}
use Rattle.hunk_base.specs.declared.fault.WriteFault.TheVariants.{Device}
use Rattle.hunk_tool.specs.FaultLine.{fault_line}
use Rattle.hunk_tool.specs.declared.tool_fault.ToolFault.TheVariants.{Input, Output}
use Rattle.hunk_tool.specs.ToolFault.{status}
use Rattle.hunk_store.specs.declared.failure.Failure.{Failure}
use Rattle.hunk_store.specs.declared.failure.Failure.TheVariants.{BadName, BadNumber, MapOverFile, Opening, Printing, Reading, SameFile, TooLong, TooManyAddresses, Tool, Writing}
use Rattle.hunk_store.specs.Addresses.{AddressSource, source_of}
use Rattle.hunk_store.specs.Addresses.AddressSource.{in_file, in_list}

-- 2 if the addresses or a name in a list are rejected, or MAP is one file with OUT or with one of the FILEs, 3 if
-- a file cannot be opened, or a read of the addresses or of a list or a write failed, also one of the map, and otherwise the
-- status of what `hunk_tool` returned
abbrev pub status_of : Failure → ℕ
status_of (BadNumber addresses index) = 2
status_of (TooManyAddresses file) = 2
status_of (TooLong file) = 2
status_of (Opening file reason) = 3
status_of (Reading file) = 3
status_of (BadName list index) = 2
status_of (Writing file) = 3
status_of (SameFile file) = 2
status_of (MapOverFile file) = 2
status_of Printing = 3
status_of (Tool fault) = status fault

-- the status of a comparison: 2 if a file is refused, since 1 is that of files that differ
abbrev pub status_of_comparison : Failure → ℕ
status_of_comparison (Tool (Input file fault)) = 2
status_of_comparison failure = status_of failure

-- what the line about bad addresses names: the option of the list, or the file
abbrev pub source_name : AddressSource → List ℕ
source_name (in_list list) = codes "--at"
source_name (in_file name) = name

-- the line that tells this about the part of a file that has this kind and index
abbrev pub part_line : (file kind : List ℕ) → ℕ → (told : List ℕ) → List ℕ
part_line file kind index told = line (codes "amihunk: " ++ file ++ kind ++ decimal index ++ told)

-- the line for a part of the addresses that is not a number
abbrev pub bad_number_line : AddressSource → ℕ → List ℕ
bad_number_line source index = part_line (source_name source) (codes ": part ") index (codes " is not 1 to 8 hexadecimal digits")

-- the line for a name in a list that is not UTF-8
abbrev pub bad_name_line : (list : List ℕ) → ℕ → List ℕ
bad_name_line list index = part_line list (codes ": name ") index (codes " is not UTF-8")

-- the line that tells this about a file
abbrev pub about_line : (file told : List ℕ) → List ℕ
about_line file told = line (codes "amihunk: " ++ file ++ codes ": " ++ told)

-- the line that reports the failure, if the files have these names
abbrev pub failure_line : List (List ℕ) → Failure → List ℕ
failure_line names (BadNumber addresses index) = bad_number_line (source_of addresses) index
failure_line names (TooManyAddresses file) = about_line file.now (codes "more than 65535 addresses")
failure_line names (TooLong file) = about_line file.now (codes "more than 16777216 bytes")
failure_line names (Opening file reason) = about_line file.now (codes "cannot be opened")
failure_line names (Reading file) = about_line file.now (codes "read failed")
failure_line names (BadName list index) = bad_name_line list.now index
failure_line names (Writing file) = about_line file.now (codes "write failed")
failure_line names (SameFile file) = about_line file.now (codes "given for both --out and --map")
failure_line names (MapOverFile file) = about_line file.now (codes "given for both --map and FILE")
failure_line names Printing = fault_line {A = Global} names (Output 0)
failure_line names (Tool fault) = fault_line names fault

-- The line was appended, and no write failed; or a write failed, and exactly the first bytes of the line were appended.
abbrev pub TellsLine : {W : Type 0} (taken : W → Option (List ℕ)) (failed : W → Bool) (old new : W) (line : List ℕ) → Type 0
TellsLine taken failed old new line =
    (Appends (taken old) (taken new) line × (failed new ≡ failed old)) ⊎ ((written : ℕ) × WriteStopped taken failed old new line (Device written))
