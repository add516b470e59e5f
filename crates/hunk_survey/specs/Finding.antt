-- What a survey finds of files.
use Rattle.std.specs.Prelude.{◌≡◌, ℕ, Bool, true, false, not, nat_lt, IsTrue, List, if◌then◌else◌, length, sum_by, Option, Some, None}
use Rattle.std.specs.List.{All, zip}
use Rattle.std.specs.Str.{is_utf8}
use Rattle.hunk_base.specs.Streams.{HasRead}
use Rattle.hunk_base.specs.declared.fault.Fault.{Fault}
use Rattle.hunk_objects.specs.ProgramUnit.{hunk_count}
use Rattle.hunk_files.specs.FileDecoder.{IsRefused}
use Rattle.hunk_files.specs.FileValue.{FileValue, IsOfItsKind}
use Rattle.hunk_files.specs.FileValue.FileValue.{object_file, load_file}
use Rattle.hunk_tool.specs.FileSystem.{FileContent, MayBeMissing, OfFile}
use Rattle.hunk_tool.specs.FileSystem.FileContent.{missing}
use Rattle.hunk_tool.specs.declared.file_system.FileType.{FileType}
use Rattle.hunk_tool.specs.declared.file_system.FileType.TheVariants as type_is
use Rattle.hunk_survey.specs.Digest.{digest_if}
use Rattle.hunk_survey.specs.declared.find.FindOptions.{FindOptions}
use Rattle.hunk_survey.specs.declared.finding.Finding.{Finding}
use Rattle.hunk_survey.specs.declared.finding.Finding.TheVariants.{Object, Load, Refused, Unread, Unopened, Directory, NotRegular}

-- ---- what is found of a file

abbrev pub finding_of : (digest : Bool) → FileValue → Finding
finding_of digest (object_file units) = Object (length units) (sum_by hunk_count units)
finding_of digest (load_file hunks) = Load (length hunks) (digest_if digest hunks)

-- The bytes are a file of the kind that its first four bytes tell, and this is found of its value.
pub record IsFoundIn (digest : Bool) (finding : Finding) (bytes : List ℕ) : Type 0 where
  pub value : FileValue
  pub is_file : IsOfItsKind value bytes
  pub finds : finding ≡ finding_of digest value

-- This is found of what a reader has: a file, which was read to the reader's end, or the first
-- offence of what was read, or that a read failed.
abbrev pub IsFound : (digest : Bool) (left left_then : Option (List ℕ)) (failed ended : Bool) → Finding → Type 0
IsFound digest left left_then failed ended (Object units hunks) = IsTrue ended × HasRead left left_then (IsFoundIn digest (Object units hunks))
IsFound digest left left_then failed ended (Load hunks told) = IsTrue ended × HasRead left left_then (IsFoundIn digest (Load hunks told))
IsFound digest left left_then failed ended (Refused fault) = HasRead left left_then (IsRefused fault ended)
IsFound digest left left_then failed ended Unread = IsTrue failed
IsFound digest left left_then failed ended _ = ⊥

-- ---- what is found under a name

-- what is found of what stands there, if that is not to be opened
abbrev pub finding_of_type : FileType → (wait : Bool) → Option Finding
finding_of_type type_is.Directory wait = Some Directory
finding_of_type type_is.Other wait = if wait then None else Some NotRegular
finding_of_type _ wait = None

-- This is found of the file of which this is known: that it was not opened, or what a reader of it has.
abbrev pub IsOfFile : FindOptions → FileContent → Finding → Type 0
IsOfFile options content Unopened = MayBeMissing content
IsOfFile options content Directory = MayBeMissing content
IsOfFile options content NotRegular = MayBeMissing content × (options.wait ≡ false)
IsOfFile options content finding =
    OfFile content (λ input. IsFound options.digest input.left input.left_then input.failed input.ended finding)

-- what is known of the file with a name; bytes that are no UTF-8 are the name of none
abbrev pub content_of : (contents : List ℕ → FileContent) → (name : List ℕ) → FileContent
content_of contents name = if is_utf8 name then contents name else missing

-- each of these is found of the file with the name in the same place
abbrev pub AreOfFiles : FindOptions → (contents : List ℕ → FileContent) → (names : List (List ℕ)) → List Finding → Type 0
AreOfFiles options contents names findings = All (λ about. IsOfFile options (content_of contents about.0) about.1) (zip names findings)

-- ---- which files are what

abbrev pub is_object : Finding → Bool
is_object (Object units hunks) = true
is_object _ = false

abbrev pub is_load : Finding → Bool
is_load (Load hunks digest) = true
is_load _ = false

abbrev pub is_refused : Finding → Bool
is_refused (Refused fault) = true
is_refused _ = false

-- it was not opened, or a read of it failed
abbrev pub is_unreadable : Finding → Bool
is_unreadable Unread = true
is_unreadable Unopened = true
is_unreadable Directory = true
is_unreadable NotRegular = true
is_unreadable _ = false

-- A file with this first offence begins as a hunk file does: its first longword is not the offence.
abbrev pub begins_hunk_file : Fault → Bool
begins_hunk_file fault = nat_lt 0 fault.place

-- it is refused, and does not even begin as a hunk file
abbrev pub is_stranger : Finding → Bool
is_stranger (Refused fault) = not (begins_hunk_file fault)
is_stranger _ = false
