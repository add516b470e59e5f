-- What is told of a failure after its line, if `--explain` is given.
use Rattle.std.specs.declared.alloc.Global.{Global}
use Rattle.std.specs.Prelude.{◌≡◌, ◌⊎◌, ℕ, List, [], ◌∷◌, get_or, map, Bool, true, false, Option, Some, Result, Ok, Err}
use Rattle.hunk_words.specs.declared.event.FileKind.{FileKind}
use Rattle.hunk_words.specs.declared.event.FileKind.TheVariants as file_kind
use Rattle.hunk_base.specs.declared.fault.Fault.{Fault}
use Rattle.hunk_loadfile.specs.LoadFile.{IsLoadOf}
use Rattle.hunk_loadfile.specs.LoadHunk.{FileHunk}
use Rattle.hunk_link.specs.declared.refusal.LinkRefusal.{LinkRefusal}
use Rattle.hunk_files.specs.ExplanationText.{explanation_text}
use Rattle.hunk_files.specs.FileValue.{kind_of_bytes}
use Rattle.hunk_base.specs.Streams.{HasRead}
use Rattle.hunk_tool.specs.FileSystem.{FileContent, OfFile, OfWholeFile}
use Rattle.hunk_origins.specs.LinkExplanation.{told_of, told_text}
use Rattle.hunk_tool.specs.ObjectFiles.{FileUnit}
use Rattle.hunk_addresses.specs.PlacesText.{places_text}
use Rattle.hunk_files.specs.declared.explanation.Explanation.{Explanation}
use Rattle.hunk_tool.specs.declared.tool_fault.ToolFault.TheVariants.{Input, InputDevice, Link, Place}
use Rattle.hunk_store.specs.Addresses.{AtBases, AddressSource, source_of}
use Rattle.hunk_store.specs.Failure.{TellsLine}
use Rattle.hunk_store.specs.Store.{Contents}
use Rattle.hunk_store.specs.declared.failure.Failure.{Failure}
use Rattle.hunk_store.specs.declared.failure.Failure.TheVariants.{Opening, Reading, Tool}
use Rattle.hunk_commands.specs.Again.{AreNoUnitsAgain, HaveUnits, IsGiven, IsNotExplained, IsNotLinkedAgain, IsNotLoadedAgain, IsNotPlacedAgain}
use Rattle.hunk_commands.specs.Link.{DoLinkTo}
use Rattle.hunk_commands.specs.declared.explain.Command.{Command}
use Rattle.hunk_commands.specs.declared.explain.Command.TheVariants as command
use Rattle.hunk_commands.specs.Reason.{reason_line}
use Rattle.hunk_commands.specs.Unexplained.{unexplained_line}
use Rattle.hunk_commands.specs.declared.unexplained.Unexplained.{Unexplained}
use Rattle.hunk_tool.specs.declared.file_system.OpenFault.{OpenFault}
use Rattle.hunk_tool.specs.declared.file_system.OpenFault.TheVariants.{Directory}

-- ---- a file that is refused

-- as which kind of file some bytes are read
abbrev pub reads_objects : List ℕ → FileKind
reads_objects bytes = file_kind.Object

abbrev pub reads_a_load_file : List ℕ → FileKind
reads_a_load_file bytes = file_kind.Load

-- and by which command
abbrev pub kind_read : Command → List ℕ → FileKind
kind_read command.Link = reads_objects
kind_read (command.Image addresses) = reads_objects
kind_read (command.Load addresses) = reads_a_load_file
kind_read command.LoadFile = reads_a_load_file
kind_read command.Text = kind_of_bytes

-- some bytes are given this explanation of this fault, and these are its lines
pub record IsOffenceText (kind_of : List ℕ → FileKind) (fault : Fault) (more bytes : List ℕ) : Type 0 where
  pub explanation : Explanation
  pub given : IsGiven kind_of fault (Some explanation) bytes
  pub lines_are : more ≡ explanation_text explanation

-- the lines that explain this fault, the first offence of what was read of the file
abbrev pub AreOffenceLines : FileContent → (kind_of : List ℕ → FileKind) → Fault → (more : List ℕ) → Type 0
AreOffenceLines content kind_of fault more =
    OfFile content (λ input. HasRead input.left input.left_then (IsOffenceText kind_of fault more))

-- what is known of the file with this number
abbrev pub content_at : Contents → (files : List (List ℕ)) → (number : ℕ) → FileContent
content_at contents files number = contents (get_or files number [])

-- ---- hunks that cannot be placed

-- the file is the load file of these hunks
abbrev pub IsLoadFile : FileContent → List FileHunk → Type 0
IsLoadFile content hunks = OfWholeFile content (IsLoadOf hunks)

-- the sizes of hunks, in longwords
abbrev pub sizes_of : List FileHunk → List ℕ
sizes_of hunks = map (λ hunk. hunk.size) hunks

-- the lines about hunks of which this holds, beside the numbers of these addresses
abbrev pub ArePlaceLines : Contents → AddressSource → (AreHunks : List FileHunk → Type 0) → (more : List ℕ) → Type 0
ArePlaceLines contents source AreHunks more =
    AtBases contents source (λ bases. (hunks : List FileHunk) × AreHunks hunks × (more ≡ places_text (sizes_of hunks) bases))

-- ---- units that do not link

-- the lines about a refusal to link the units of the files
pub record AreRefusalLines (contents : Contents) (files : List (List ℕ)) (refusal : LinkRefusal Global) (more : List ℕ) : Type 0 where
  pub units : List FileUnit
  pub are : HaveUnits contents files units
  pub lines_are : more ≡ told_text files (told_of units refusal)

-- ---- a file that cannot be opened or read

-- the line that tells this reason
abbrev pub IsReason : OpenFault → (more : List ℕ) → Type 0
IsReason reason more = more ≡ reason_line reason

-- ---- the lines for each command

-- there are no further lines
abbrev pub AreNoLines : (more : List ℕ) → Type 0
AreNoLines more = more ≡ []

-- the lines are these; or there is one line, which tells why there are no others, for a reason of which the first
-- holds
abbrev pub OrUnexplained : (Why : Unexplained → Type 0) (Holds : List ℕ → Type 0) → (more : List ℕ) → Type 0
OrUnexplained Why Holds more = Holds more ⊎ ((why : Unexplained) × Why why × (more ≡ unexplained_line why))

-- the line that a file which cannot be read is a directory; or there is none
abbrev pub IsDirectoryOrNone : (more : List ℕ) → Type 0
IsDirectoryOrNone more = (more ≡ []) ⊎ IsReason Directory more

-- the lines about a failure for these files, if files are read so, these are the lines about a refusal to link,
-- and these are those about hunks that cannot be placed: a file that cannot be opened has the line with its
-- reason, and what is told of no file has none
abbrev pub AreLines : Contents → (kind_of : List ℕ → FileKind) (AreRefusals : LinkRefusal Global → List ℕ → Type 0) (ArePlaces : List ℕ → Type 0) (files : List (List ℕ)) → Failure → (more : List ℕ) → Type 0
AreLines contents kind_of AreRefusals ArePlaces files (Tool (Input file fault)) more =
    OrUnexplained (IsNotExplained (content_at contents files file) kind_of fault) (AreOffenceLines (content_at contents files file) kind_of fault) more
AreLines contents kind_of AreRefusals ArePlaces files (Tool (Link refusal)) more = AreRefusals refusal more
AreLines contents kind_of AreRefusals ArePlaces files (Tool (Place fault)) more = ArePlaces more
AreLines contents kind_of AreRefusals ArePlaces files (Tool (InputDevice file)) more = IsDirectoryOrNone more
AreLines contents kind_of AreRefusals ArePlaces files (Reading name) more = IsDirectoryOrNone more
AreLines contents kind_of AreRefusals ArePlaces files (Opening name reason) more = IsReason reason more
AreLines contents kind_of AreRefusals ArePlaces files _ more = AreNoLines more

-- the lines about units of the files that do not link
abbrev pub AreUnitLines : Contents → (files : List (List ℕ)) → LinkRefusal Global → (more : List ℕ) → Type 0
AreUnitLines contents files refusal = OrUnexplained (AreNoUnitsAgain contents files) (AreRefusalLines contents files refusal)

-- and about a load file that is too large to be written again: none
abbrev pub AreNoUnitLines : LinkRefusal Global → (more : List ℕ) → Type 0
AreNoUnitLines refusal = AreNoLines

-- the lines about a refusal to link, for a command and its files
abbrev pub AreRefusalLinesOf : Contents → Command → (files : List (List ℕ)) → LinkRefusal Global → (more : List ℕ) → Type 0
AreRefusalLinesOf contents command.Link files = AreUnitLines contents files
AreRefusalLinesOf contents (command.Image addresses) files = AreUnitLines contents files
AreRefusalLinesOf contents (command.Load addresses) files = AreNoUnitLines
AreRefusalLinesOf contents command.LoadFile files = AreNoUnitLines
AreRefusalLinesOf contents command.Text files = AreNoUnitLines

-- the lines about the hunks of a load file that cannot be placed
abbrev pub AreLoadedPlaces : Contents → AddressSource → FileContent → (more : List ℕ) → Type 0
AreLoadedPlaces contents source content =
    OrUnexplained (IsNotPlacedAgain contents source (IsNotLoadedAgain content)) (ArePlaceLines contents source (IsLoadFile content))

-- and about those of the load file of object files
abbrev pub AreLinkedPlaces : Contents → AddressSource → (files : List (List ℕ)) → (more : List ℕ) → Type 0
AreLinkedPlaces contents source files =
    OrUnexplained (IsNotPlacedAgain contents source (IsNotLinkedAgain contents files)) (ArePlaceLines contents source (DoLinkTo false true contents files))

-- the lines about hunks that cannot be placed, for a command and its files
abbrev pub ArePlaceLinesOf : Contents → Command → (files : List (List ℕ)) → (more : List ℕ) → Type 0
ArePlaceLinesOf contents command.Link files = AreNoLines
ArePlaceLinesOf contents (command.Image addresses) files = AreLinkedPlaces contents (source_of addresses) files
ArePlaceLinesOf contents (command.Load addresses) files = AreLoadedPlaces contents (source_of addresses) (content_at contents files 0)
ArePlaceLinesOf contents command.LoadFile files = AreNoLines
ArePlaceLinesOf contents command.Text files = AreNoLines

-- the lines about a failure of a command for these files
abbrev pub AreLinesOf : Contents → Command → (files : List (List ℕ)) → Failure → (more : List ℕ) → Type 0
AreLinesOf contents command files = AreLines contents (kind_read command) (AreRefusalLinesOf contents command files) (ArePlaceLinesOf contents command files) files

-- and for each command
abbrev pub AreLinkLines : Contents → (files : List (List ℕ)) → Failure → (more : List ℕ) → Type 0
AreLinkLines contents files = AreLines contents reads_objects (AreUnitLines contents files) AreNoLines files

abbrev pub AreImageLines : Contents → AddressSource → (files : List (List ℕ)) → Failure → (more : List ℕ) → Type 0
AreImageLines contents source files = AreLines contents reads_objects (AreUnitLines contents files) (AreLinkedPlaces contents source files) files

abbrev pub AreLoadLines : Contents → AddressSource → (file : List ℕ) → Failure → (more : List ℕ) → Type 0
AreLoadLines contents source file = AreLines contents reads_a_load_file AreNoUnitLines (AreLoadedPlaces contents source (contents file)) (file ∷ [])

abbrev pub AreLoadFileLines : Contents → (files : List (List ℕ)) → Failure → (more : List ℕ) → Type 0
AreLoadFileLines contents files = AreLines contents reads_a_load_file AreNoUnitLines AreNoLines files

abbrev pub AreTextLines : Contents → (files : List (List ℕ)) → Failure → (more : List ℕ) → Type 0
AreTextLines contents files = AreLines contents kind_of_bytes AreNoUnitLines AreNoLines files

-- the same, if they are asked for; otherwise there are none
abbrev pub IfAsked : (explain : Bool) (Holds : Failure → List ℕ → Type 0) → Failure → (more : List ℕ) → Type 0
IfAsked true Holds failure more = Holds failure more
IfAsked false Holds failure more = AreNoLines more

-- ---- what is told

-- lines of which this holds were appended, or a write failed
pub record TellsMore {W : Type 0} (taken : W → Option (List ℕ)) (failed : W → Bool) (old new : W) (Holds : List ℕ → Type 0) : Type 0 where
  pub more : List ℕ
  pub is_more : Holds more
  pub told : TellsLine taken failed old new more

-- lines of which the first holds were told; or none were, for a reason of which the second holds
abbrev pub TellsUnless : {W : Type 0} (taken : W → Option (List ℕ)) (failed : W → Bool) (old new : W) (Holds : List ℕ → Type 0) (Why : Unexplained → Type 0) → Result (Unit {0}) Unexplained → Type 0
TellsUnless taken failed old new Holds Why (Ok done) = TellsMore taken failed old new Holds
TellsUnless taken failed old new Holds Why (Err why) = Why why × (new ≡ old)

-- the line that tells why they were not told was told then, if there is a reason for it
abbrev pub AreToldThen : {W : Type 0} (taken : W → Option (List ℕ)) (failed : W → Bool) (old new : W) → Result (Unit {0}) Unexplained → Type 0
AreToldThen taken failed old new (Ok done) = new ≡ old
AreToldThen taken failed old new (Err why) = TellsLine taken failed old new (unexplained_line why)
