-- What the calls that read a file make of a session, and what they answer.
use Rattle.std.specs.Global.{Global}
use Rattle.std.specs.Prelude.{◌≡◌, ℕ, List, [], ◌++◌, length}
use Rattle.hunk_words.specs.Files.{IsValidPrefix}
use Rattle.hunk_words.specs.FirstOffence.{FirstOffence, OffendsAt}
use Rattle.hunk_base.specs.Longwords.{longwords, unfinished}
use Rattle.hunk_files.specs.FileValue.{FileValue, IsOfItsKind, kind_of_bytes}
use Rattle.hunk_files.specs.HunkFile.{StandsFor}
use Rattle.hunk_tool.specs.declared.tool_fault.ToolFault.{ToolFault}
use Rattle.hunk_tool.specs.declared.tool_fault.ToolFault.TheVariants.{Input, OutOfMemory}
use Rattle.amihunk_c.specs.Answers.{plain_answer}
use Rattle.amihunk_c.specs.Refusals.{file_refused, memory_refused}
use Rattle.amihunk_c.specs.Turns.{OutOfTurn, TellsAgain}
use Rattle.amihunk_c.specs.declared.answer.Answer.{Answer}
use Rattle.amihunk_c.specs.declared.codes.Status.TheVariants as status
use Rattle.amihunk_c.specs.declared.refused.Refused.{Refused}
use Rattle.amihunk_c.specs.declared.session.Session.{Session}
use Rattle.amihunk_c.specs.declared.session.Session.TheVariants.{Reading, Read, Stopped}

-- A session begins before the first byte of a file.
abbrev pub BeginsFile : Session → Type 0
BeginsFile (Reading decoder) = StandsFor decoder []
BeginsFile session = ⊥

-- ---- a piece

-- Why a piece was refused after which the bytes are these: their longwords offend there, or an
-- allocation failed.
abbrev pub IsPieceRefusal : List ℕ → Refused → ToolFault Global → Type 0
IsPieceRefusal bytes refused (Input file fault) =
    OffendsAt (kind_of_bytes bytes) (longwords bytes) fault.place fault.reason × (refused ≡ file_refused fault 0)
IsPieceRefusal bytes refused (OutOfMemory written) = refused ≡ memory_refused
IsPieceRefusal bytes refused _ = ⊥

-- After a piece the bytes are these: they are a valid prefix, or refused.
abbrev pub IsPieceFed : (bytes : List ℕ) → Session → Answer → Type 0
IsPieceFed bytes (Reading decoder) answer =
    StandsFor decoder bytes × IsValidPrefix (kind_of_bytes bytes) (longwords bytes) × (answer ≡ plain_answer status.Ok)
IsPieceFed bytes (Stopped refused) answer = IsPieceRefusal bytes refused refused.fault × (answer ≡ refused.answer)
IsPieceFed bytes _ answer = ⊥

abbrev pub FeedsFile : List ℕ → (old new : Session) → Answer → Type 0
FeedsFile piece (Reading decoder) new answer = (bytes : List ℕ) → StandsFor decoder bytes → IsPieceFed (bytes ++ piece) new answer
FeedsFile piece (Stopped refused) new answer = TellsAgain (Stopped refused) new refused answer
FeedsFile piece old new answer = OutOfTurn old new answer

-- ---- the end

-- Why a file of these bytes was not read: it offends there, or an allocation failed.
abbrev pub IsFileRefusal : List ℕ → Refused → ToolFault Global → Type 0
IsFileRefusal bytes refused (Input file fault) =
    FirstOffence (kind_of_bytes bytes) (longwords bytes) (length (unfinished bytes)) fault.place fault.reason
    × (refused ≡ file_refused fault 0)
IsFileRefusal bytes refused (OutOfMemory written) = refused ≡ memory_refused
IsFileRefusal bytes refused _ = ⊥

-- At the end of these bytes they are a file that was read, or refused.
abbrev pub IsFileEnded : List ℕ → Session → Answer → Type 0
IsFileEnded bytes (Read looked) answer = IsOfItsKind looked bytes × (answer ≡ plain_answer status.Ok)
IsFileEnded bytes (Stopped refused) answer = IsFileRefusal bytes refused refused.fault × (answer ≡ refused.answer)
IsFileEnded bytes _ answer = ⊥

abbrev pub FinishesFile : (old new : Session) → Answer → Type 0
FinishesFile (Reading decoder) new answer = (bytes : List ℕ) → StandsFor decoder bytes → IsFileEnded bytes new answer
FinishesFile (Stopped refused) new answer = TellsAgain (Stopped refused) new refused answer
FinishesFile old new answer = OutOfTurn old new answer

-- What is in a file is known, or there is no memory for that.
abbrev pub ShowsFile : FileValue → Session → Answer → Type 0
ShowsFile value (Read looked) answer = (looked ≡ value) × (answer ≡ plain_answer status.Ok)
ShowsFile value (Stopped refused) answer = (refused ≡ memory_refused) × (answer ≡ plain_answer status.OutOfMemory)
ShowsFile value _ answer = ⊥
