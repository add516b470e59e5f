-- The lines of JSON about files.
use Rattle.std.specs.Prelude.{ℕ, List, [], ◌++◌, codes, Bool, if◌then◌else◌, Option, Some, None}
use Rattle.std.specs.Fmt.{decimal}
use Rattle.hex.specs.Hex.{encode_lower}
use Rattle.hunk_base.specs.Text.{line}
use Rattle.hunk_base.specs.declared.fault.Fault.{Fault}
use Rattle.hunk_base.specs.declared.fault.Reason.{Reason}
use Rattle.hunk_base.specs.declared.fault.Reason.TheVariants.{UnknownType, MisplacedType, UnsupportedBlock, UnsupportedExt, NoSuchHunk, SiteOutside, SiteOverlap, SymbolKind}
use Rattle.hunk_json.specs.Document.{document}
use Rattle.hunk_json.specs.FileJson.{name_json}
use Rattle.hunk_json.specs.declared.form.JsonForm.TheVariants.{Plain}
use Rattle.hunk_tool.specs.FaultLine.{reason_text}
use Rattle.hunk_survey.specs.Finding.{begins_hunk_file}
use Rattle.hunk_survey.specs.declared.finding.Finding.{Finding}
use Rattle.hunk_survey.specs.declared.finding.Finding.TheVariants.{Object, Load, Refused, Unread, Unopened, Directory, NotRegular}

-- the number that a reason tells
abbrev pub number_in : Reason → Option ℕ
number_in (UnknownType type) = Some type
number_in (MisplacedType type) = Some type
number_in (UnsupportedBlock type) = Some type
number_in (UnsupportedExt type) = Some type
number_in (NoSuchHunk hunk) = Some hunk
number_in (SiteOutside offset) = Some offset
number_in (SiteOverlap offset) = Some offset
number_in (SymbolKind kind) = Some kind
number_in _ = None

abbrev pub number_json : Option ℕ → List ℕ
number_json (Some number) = decimal number
number_json None = codes "null"

abbrev pub truth : Bool → List ℕ
truth holds = if holds then codes "true" else codes "false"

abbrev pub digest_member : Option (List ℕ) → List ℕ
digest_member (Some digest) = codes ",\"sha256\":\"" ++ encode_lower digest ++ codes "\""
digest_member None = []

-- No text of a reason has a character that JSON escapes.
abbrev pub refused_members : Fault → List ℕ
refused_members fault =
    codes ",\"kind\":\"refused\",\"place\":" ++ decimal fault.place
    ++ codes ",\"reason\":\"" ++ reason_text fault.reason
    ++ codes "\",\"number\":" ++ number_json (number_in fault.reason)
    ++ codes ",\"hunk file\":" ++ truth (begins_hunk_file fault)

-- the members behind the name
abbrev pub finding_members : Finding → List ℕ
finding_members (Object units hunks) = codes ",\"kind\":\"object file\",\"units\":" ++ decimal units ++ codes ",\"hunks\":" ++ decimal hunks
finding_members (Load hunks digest) = codes ",\"kind\":\"load file\",\"hunks\":" ++ decimal hunks ++ digest_member digest
finding_members (Refused fault) = refused_members fault
finding_members Unread = codes ",\"kind\":\"unreadable\""
finding_members Unopened = codes ",\"kind\":\"unreadable\""
finding_members Directory = codes ",\"kind\":\"unreadable\""
finding_members NotRegular = codes ",\"kind\":\"unreadable\""

-- an object without spaces between its parts, on one line
abbrev pub finding_json : (name : List ℕ) → Finding → List ℕ
finding_json name finding = line (codes "{\"file\":" ++ document Plain (name_json name) ++ finding_members finding ++ codes "}")
