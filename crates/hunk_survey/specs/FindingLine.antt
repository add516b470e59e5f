-- The lines of text about files.
use Rattle.std.specs.Prelude.{ℕ, List, ◌++◌, codes, Option, Some, None}
use Rattle.std.specs.Fmt.{decimal}
use Rattle.hex.specs.Hex.{encode_lower}
use Rattle.hunk_base.specs.Text.{line}
use Rattle.hunk_text.specs.Listing.{load_line, object_line}
use Rattle.hunk_tool.specs.FaultLine.{reason_text}
use Rattle.hunk_tool.specs.ShownName.{shown_name}
use Rattle.hunk_survey.specs.declared.finding.Finding.{Finding}
use Rattle.hunk_survey.specs.declared.finding.Finding.TheVariants.{Object, Load, Refused, Unread, Unopened, Directory, NotRegular}

-- what is told of a load file
abbrev pub load_text : (hunks : ℕ) → (digest : Option (List ℕ)) → List ℕ
load_text hunks None = load_line hunks
load_text hunks (Some digest) = line (codes "load file: " ++ decimal hunks ++ codes " hunks, SHA-256 " ++ encode_lower digest)

-- what comes after the name of a file
abbrev pub finding_text : Finding → List ℕ
finding_text (Object units hunks) = object_line units hunks
finding_text (Load hunks digest) = load_text hunks digest
finding_text (Refused fault) = line (codes "longword " ++ decimal fault.place ++ codes ": " ++ reason_text fault.reason)
finding_text Unread = line (codes "read failed")
finding_text Unopened = line (codes "cannot be opened")
finding_text Directory = line (codes "is a directory")
finding_text NotRegular = line (codes "not a regular file")

abbrev pub finding_line : (name : List ℕ) → Finding → List ℕ
finding_line name finding = shown_name name ++ codes ": " ++ finding_text finding
