-- What the calls of linking make of a session, and what they answer.
use Rattle.std.specs.Global.{Global}
use Rattle.std.specs.Prelude.{◌≡◌, ℕ, List, [], ◌∷◌, ◌++◌, length, Option, Some, None}
use Rattle.hunk_words.specs.Files.{IsValidPrefix}
use Rattle.hunk_words.specs.FirstOffence.{FirstOffence, OffendsAt}
use Rattle.hunk_base.specs.Longwords.{longwords, unfinished}
use Rattle.hunk_words.specs.declared.event.FileKind.TheVariants.{Object}
use Rattle.hunk_tool.specs.declared.tool_fault.ToolFault.{ToolFault}
use Rattle.hunk_tool.specs.declared.tool_fault.ToolFault.TheVariants.{Input, OutOfMemory}
use Rattle.hunk_link.specs.NameHasher.{begun_with}
use Rattle.amihunk_c.specs.Answers.{plain_answer}
use Rattle.amihunk_c.specs.Linked.{IsLinkedFile}
use Rattle.amihunk_c.specs.Linkers.{HasTaken, IsLinkStop, begun}
use Rattle.amihunk_c.specs.Refusals.{file_refused, memory_refused}
use Rattle.amihunk_c.specs.Turns.{OutOfTurn, TellsAgain}
use Rattle.amihunk_c.specs.declared.answer.Answer.{Answer}
use Rattle.amihunk_c.specs.declared.codes.Status.TheVariants as status
use Rattle.amihunk_c.specs.declared.linker.LinkerOptions.{LinkerOptions}
use Rattle.amihunk_c.specs.declared.refused.Refused.{Refused}
use Rattle.amihunk_c.specs.declared.session.Session.{Session}
use Rattle.amihunk_c.specs.declared.session.Session.TheVariants.{Linking, Linked, Stopped}

-- A session begins with these options, before the first input, and hashes names with this key.
abbrev pub BeginsLinker : LinkerOptions → (key0 key1 : ℕ) → Session → Type 0
BeginsLinker options key0 key1 (Linking linker) = HasTaken options [] None linker × (linker.hasher.begun ≡ begun_with key0 key1)
BeginsLinker options key0 key1 session = ⊥

-- ---- a piece

-- Why a piece of the input with this number was refused after which its bytes are these.
abbrev pub IsPieceRefusal : ℕ → List ℕ → Refused → ToolFault Global → Type 0
IsPieceRefusal input bytes refused (Input file fault) = OffendsAt Object (longwords bytes) fault.place fault.reason × (refused ≡ file_refused fault input)
IsPieceRefusal input bytes refused (OutOfMemory written) = refused ≡ memory_refused
IsPieceRefusal input bytes refused fault = ⊥

-- After a piece the bytes of the current input are these: they are a valid prefix, or refused.
abbrev pub IsTaken : LinkerOptions → (files : List (List ℕ)) (bytes : List ℕ) → Session → Answer → Type 0
IsTaken options files bytes (Linking linker) answer =
    HasTaken options files (Some bytes) linker × IsValidPrefix Object (longwords bytes) × (answer ≡ plain_answer status.Ok)
IsTaken options files bytes (Stopped refused) answer = IsPieceRefusal (length files) bytes refused refused.fault × (answer ≡ refused.answer)
IsTaken options files bytes session answer = ⊥

abbrev pub FeedsInput : List ℕ → (old new : Session) → Answer → Type 0
FeedsInput piece (Linking linker) new answer =
    (options : LinkerOptions) (files : List (List ℕ)) (current : Option (List ℕ)) → HasTaken options files current linker → IsTaken options files (begun current ++ piece) new answer
FeedsInput piece (Stopped refused) new answer = TellsAgain (Stopped refused) new refused answer
FeedsInput piece old new answer = OutOfTurn old new answer

-- ---- the end of an input

-- Why the input with this number was refused that has these bytes.
abbrev pub IsInputRefusal : ℕ → List ℕ → Refused → ToolFault Global → Type 0
IsInputRefusal input bytes refused (Input file fault) =
    FirstOffence Object (longwords bytes) (length (unfinished bytes)) fault.place fault.reason × (refused ≡ file_refused fault input)
IsInputRefusal input bytes refused (OutOfMemory written) = refused ≡ memory_refused
IsInputRefusal input bytes refused fault = ⊥

-- An input ends that has these bytes: it is an object file, or refused.
abbrev pub IsEnded : LinkerOptions → (files : List (List ℕ)) (bytes : List ℕ) → Session → Answer → Type 0
IsEnded options files bytes (Linking linker) answer = HasTaken options (files ++ bytes ∷ []) None linker × (answer ≡ plain_answer status.Ok)
IsEnded options files bytes (Stopped refused) answer = IsInputRefusal (length files) bytes refused refused.fault × (answer ≡ refused.answer)
IsEnded options files bytes session answer = ⊥

abbrev pub EndsInput : (old new : Session) → Answer → Type 0
EndsInput (Linking linker) new answer =
    (options : LinkerOptions) (files : List (List ℕ)) (current : Option (List ℕ)) → HasTaken options files current linker → IsEnded options files (begun current) new answer
EndsInput (Stopped refused) new answer = TellsAgain (Stopped refused) new refused answer
EndsInput old new answer = OutOfTurn old new answer

-- ---- the link

-- The bytes of these object files are linked, or it is told why they are not.
abbrev pub AreLinked : LinkerOptions → List (List ℕ) → Session → Answer → Type 0
AreLinked options files (Linked linked) answer = IsLinkedFile options files linked × (answer ≡ plain_answer status.Ok)
AreLinked options files (Stopped refused) answer = IsLinkStop options files refused refused.fault × (answer ≡ refused.answer)
AreLinked options files session answer = ⊥

-- the same where the current input has ended; inside one the call is out of turn
abbrev pub LinksBetween : LinkerOptions → List (List ℕ) → Option (List ℕ) → (old new : Session) → Answer → Type 0
LinksBetween options files None old new answer = AreLinked options files new answer
LinksBetween options files (Some bytes) old new answer = OutOfTurn old new answer

abbrev pub Links : (old new : Session) → Answer → Type 0
Links (Linking linker) new answer =
    (options : LinkerOptions) (files : List (List ℕ)) (current : Option (List ℕ)) → HasTaken options files current linker
    → LinksBetween options files current (Linking linker) new answer
Links (Stopped refused) new answer = TellsAgain (Stopped refused) new refused answer
Links old new answer = OutOfTurn old new answer

-- the bytes of the load file; none if none is linked
abbrev pub linked_in : Session → List ℕ
linked_in (Linked linked) = linked.bytes.items
linked_in session = []
