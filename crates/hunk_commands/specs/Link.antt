-- What is known of object files, of OUT and of MAP after `link`, or why it failed.
use Rattle.std.specs.Borrow.{Bor}
use Rattle.std.specs.Prelude.{◌≡◌, ◌≢◌, ◌⊎◌, ℕ, Bool, List, Option, Some, None, Contains, ⊤}
use Rattle.std.specs.Io.KnownBytes.{Appends}
use Rattle.hunk_base.specs.Name.{bytes_of}
use Rattle.hunk_loadfile.specs.LoadHunk.{FileHunk}
use Rattle.hunk_loadfile.specs.Rules.{IsLoadFile}
use Rattle.hunk_loadfile.specs.WrittenForm.{written_in}
use Rattle.hunk_objects.specs.ProgramUnit.{ObjectUnit}
use Rattle.hunk_tool.specs.FileSystem.{FileContent}
use Rattle.hunk_tool.specs.FileSystem.FileContent.{unknown}
use Rattle.hunk_tool.specs.Link.{DoLink, IsLinked, IsLinkFault, IsUnlinked, LinkTo, Taken, linked_hunks}
use Rattle.hunk_tool.specs.LinkOptions.{form_of, trimmed_if}
use Rattle.hunk_origins.specs.Map.{LinkFiles, map_text}
use Rattle.hunk_tool.specs.ObjectFiles.{AreFileUnits, FileUnit, units_of}
use Rattle.hunk_tool.specs.declared.link_options.LinkOptions.{LinkOptions}
use Rattle.hunk_tool.specs.declared.tool_fault.ToolFault.TheVariants.{Output, OutOfMemory}
use Rattle.hunk_store.specs.declared.failure.Failure.{Failure}
use Rattle.hunk_store.specs.declared.failure.Failure.TheVariants.{MapOverFile, Opening, Printing, SameFile, Tool, Writing}
use Rattle.hunk_store.specs.Inputs.{IsOpenFailure, IsUnopened, OfFiles, OfWholeFiles}
use Rattle.hunk_store.specs.Store.{AreUnchanged, Contents, IsBegun, IsKnown, IsReplaced, IsUnplaced, IsWriteFault}

-- the files are object files that link, and this is their load file
abbrev pub DoLinkTo : (globals strip : Bool) → Contents → (files : List (List ℕ)) (file : List FileHunk) → Type 0
DoLinkTo globals strip contents files file = OfWholeFiles contents files (LinkTo globals strip file)

-- the files are object files that link, and their load file was put in the place of OUT
pub record IsMade (globals : Bool) (options : LinkOptions) (contents : Contents) (files : List (List ℕ)) (out : List ℕ) (contents_then : Contents) : Type 0 where
  pub start : Option (List ℕ)
  pub taken : Option (List ℕ)
  pub begun : IsBegun (contents out) start
  pub linked : OfWholeFiles contents files (IsLinked globals options start taken)
  pub replaced : IsReplaced out taken contents contents_then

-- why the files were not linked: one of them cannot be opened, they do not link, or out of memory
abbrev pub AreUnlinked : (globals strip : Bool) → Contents → (files : List (List ℕ)) → Failure → Type 0
AreUnlinked globals strip contents files (Opening name reason) = IsUnopened contents files name.now
AreUnlinked globals strip contents files (Tool fault) = (fault ≡ OutOfMemory 0) ⊎ OfFiles contents files (λ inputs. IsUnlinked globals strip inputs fault)
AreUnlinked globals strip contents files _ = ⊥

-- the files are object files that link
abbrev pub DoLinkAll : (globals strip : Bool) → Contents → (files : List (List ℕ)) → Type 0
DoLinkAll globals strip contents files = OfWholeFiles contents files (λ bytes. (units : List ObjectUnit) × DoLink globals strip bytes units)

-- `link_run` returned this fault for readers of the files, and for a writer, of which a write failed only if OUT is
-- not known
abbrev pub HasRunFault : (globals : Bool) → LinkOptions → Contents → (files : List (List ℕ)) (out : List ℕ) → Failure → Type 0
HasRunFault globals options contents files out (Tool fault) =
    OfFiles contents files (λ inputs. (taken : Taken) × IsLinkFault globals options inputs taken fault) × (IsWriteFault fault → contents out ≡ unknown)
HasRunFault globals options contents files out _ = ⊥

-- why `link` failed: the files cannot be opened, the run over them failed, or what it wrote was not put
-- in the place of OUT, which is not touched before the files have been linked
abbrev pub IsLinkFailure : (globals : Bool) → LinkOptions → Contents → (files : List (List ℕ)) (out : List ℕ) → Failure → Type 0
IsLinkFailure globals options contents files out failure =
    IsOpenFailure contents files failure
    ⊎ (HasRunFault globals options contents files out failure ⊎ (DoLinkAll globals options.strip contents files × IsUnplaced (contents out) out failure))

-- ---- with a map

-- the files are object files that link, with these units as they are linked, and this is their load file
abbrev pub DoLinkFiles : (globals strip : Bool) → Contents → (files : List (List ℕ)) (units : List FileUnit) (file : List FileHunk) → Type 0
DoLinkFiles globals strip contents files units file = OfWholeFiles contents files (LinkFiles globals strip units file)

-- the load file as the options have it, which was put in the place of OUT
pub record IsWrittenOut (options : LinkOptions) (linked : List FileHunk) (out : List ℕ) (contents contents_then : Contents) (file : List FileHunk) : Type 0 where
  pub file_is : file ≡ trimmed_if options.trim linked
  pub valid : IsLoadFile file
  pub start : Option (List ℕ)
  pub taken : Option (List ℕ)
  pub begun : IsBegun (contents out) start
  pub written : Appends start taken (bytes_of (written_in (form_of options) file))
  pub replaced : IsReplaced out taken contents contents_then

-- the map of this load file and these units was put in the place of MAP
pub record HasMap (names : List (List ℕ)) (file : List FileHunk) (units : List FileUnit) (map : List ℕ) (contents contents_then : Contents) : Type 0 where
  pub start : Option (List ℕ)
  pub taken : Option (List ℕ)
  pub begun : IsBegun (contents map) start
  pub written : Appends start taken (map_text names file units)
  pub replaced : IsReplaced map taken contents contents_then

-- the object files link, the bytes of their load file were written, and its map, with these names of the
-- files, was put in the place of MAP
pub record IsLinkedWithMap (globals : Bool) (options : LinkOptions) (names : List (List ℕ)) (start taken : Option (List ℕ)) (map : List ℕ) (contents contents_then : Contents) (files : List (List ℕ)) : Type 0 where
  pub linked : IsLinked globals options start taken files
  pub units : List FileUnit
  pub are : AreFileUnits units files
  pub units_are : linked.units ≡ units_of units
  pub has_map : HasMap names (linked_hunks linked.units globals options) units map contents contents_then

-- the files are object files that link, their load file was put in the place of OUT, and then its map in the
-- place of MAP
pub record IsMapped (globals : Bool) (options : LinkOptions) (names : List (List ℕ)) (contents : Contents) (files : List (List ℕ)) (out map : List ℕ) (contents_then : Contents) : Type 0 where
  pub between : Contents
  pub start : Option (List ℕ)
  pub taken : Option (List ℕ)
  pub begun : IsBegun (contents out) start
  pub linked : OfWholeFiles contents files (IsLinkedWithMap globals options names start taken map between contents_then)
  pub replaced : IsReplaced out taken contents between

-- why a load file is not in the place of OUT: OUT cannot be opened or replaced, a write failed, or out of
-- memory
abbrev pub IsUnwritten : FileContent → (out : List ℕ) → Failure → Type 0
IsUnwritten content out (Opening name reason) = (name.now ≡ out) × (content ≡ unknown)
IsUnwritten content out Printing = content ≡ unknown
IsUnwritten content out (Tool (Output written)) = content ≡ unknown
IsUnwritten content out (Tool (OutOfMemory written)) = ⊤
IsUnwritten content out _ = ⊥

-- why a map is not in the place of MAP: MAP cannot be opened or replaced, a write to it failed, or out of
-- memory
abbrev pub IsUnmapped : FileContent → (map : List ℕ) → Failure → Type 0
IsUnmapped content map (Opening name reason) = (name.now ≡ map) × (content ≡ unknown)
IsUnmapped content map (Writing name) = (name.now ≡ map) × (content ≡ unknown)
IsUnmapped content map (Tool (OutOfMemory written)) = ⊤
IsUnmapped content map _ = ⊥

-- why a map is not in its place, if what it was written to tells this failure
abbrev pub map_failure : (map : Bor (List ℕ)) → Failure → Failure
map_failure map Printing = Writing map
map_failure map (Tool (Output written)) = Writing map
map_failure map failure = failure

-- MAP is one file with OUT, or with one of the files
abbrev pub IsTaken : Contents → (files : List (List ℕ)) (out map : List ℕ) → Failure → Type 0
IsTaken contents files out map (SameFile name) = (name.now ≡ map) × (IsKnown (contents out) → out ≡ map)
IsTaken contents files out map (MapOverFile name) = (name.now ≡ map) × (IsKnown (contents map) → Contains files map)
IsTaken contents files out map _ = ⊥

-- the load file was made, and is not in the place of OUT
abbrev pub IsNotPlaced : (globals strip : Bool) → Contents → (files : List (List ℕ)) (out : List ℕ) → Failure → Type 0
IsNotPlaced globals strip contents files out failure = (file : List FileHunk) × DoLinkTo globals strip contents files file × IsUnwritten (contents out) out failure

-- why `link` with a map failed before OUT was in its place: what MAP is comes first
abbrev pub IsMapFailureBefore : (globals : Bool) → LinkOptions → Contents → (files : List (List ℕ)) (out map : List ℕ) → Failure → Type 0
IsMapFailureBefore globals options contents files out map failure =
    IsTaken contents files out map failure
    ⊎ (AreUnlinked globals options.strip contents files failure ⊎ IsNotPlaced globals options.strip contents files out failure)

-- why `link` with a map failed: before any file was touched, or once OUT was in its place
abbrev pub IsMapFailure : (globals : Bool) → LinkOptions → Contents → (files : List (List ℕ)) (out map : List ℕ) → (contents_then : Contents) → Failure → Type 0
IsMapFailure globals options contents files out map contents_then failure =
    (IsMapFailureBefore globals options contents files out map failure × AreUnchanged contents contents_then)
    ⊎ (IsMade globals options contents files out contents_then × IsUnmapped (contents_then map) map failure)

-- ---- as MAP is given, or not

-- what was done
abbrev pub IsDone : (globals : Bool) → LinkOptions → Contents → (files : List (List ℕ)) (out : List ℕ) → Option (List ℕ) → (contents_then : Contents) → Type 0
IsDone globals options contents files out None contents_then = IsMade globals options contents files out contents_then
IsDone globals options contents files out (Some map) contents_then = IsMapped globals options files contents files out map contents_then × (out ≢ map)

-- and why not
abbrev pub IsUndone : (globals : Bool) → LinkOptions → Contents → (files : List (List ℕ)) (out : List ℕ) → Option (List ℕ) → (contents_then : Contents) → Failure → Type 0
IsUndone globals options contents files out None contents_then failure = IsLinkFailure globals options contents files out failure × AreUnchanged contents contents_then
IsUndone globals options contents files out (Some map) contents_then failure = IsMapFailure globals options contents files out map contents_then failure
