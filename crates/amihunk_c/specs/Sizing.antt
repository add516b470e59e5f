-- What the calls that read a header make of a session, and what they answer.
use Rattle.std.specs.Prelude.{◌≡◌, ◌≢◌, ℕ, List, [], ◌++◌, Option, None, Some}
use Rattle.hunk_loader.specs.HeaderLoader.{CanPlace, CannotPlace, HasTaken, HeaderState, StaysPlaced}
use Rattle.hunk_loader.specs.declared.header_hunks.HeaderHunk.{HeaderHunk}
use Rattle.hunk_loader.specs.declared.header_loader.PlaceRefusal.{PlaceRefusal}
use Rattle.hunk_loader.specs.declared.header_loader.PlaceRefusal.TheVariants.{HeaderIncomplete, Place, OutOfMemory}
use Rattle.hunk_loader.specs.declared.places.PlaceFault.{PlaceFault}
use Rattle.amihunk_c.specs.Answers.{place_answer, plain_answer}
use Rattle.amihunk_c.specs.Loading.{HasFed, IsFedRefusal}
use Rattle.amihunk_c.specs.Turns.{OutOfTurn, TellsAgain}
use Rattle.amihunk_c.specs.declared.answer.Answer.{Answer}
use Rattle.amihunk_c.specs.declared.codes.Status.{Status}
use Rattle.amihunk_c.specs.declared.codes.Status.TheVariants as status
use Rattle.amihunk_c.specs.declared.session.Session.{Session}
use Rattle.amihunk_c.specs.declared.session.Session.TheVariants.{Loading, Sizing, Stopped}

-- A session begins without bases, before the first byte.
abbrev pub BeginsHeader : Session → Type 0
BeginsHeader (Sizing header) = header ≡ record { bytes = []; hunks = None; refusal = None }
BeginsHeader session = ⊥

-- ---- a piece

-- the bases are due once the hunks are told
abbrev pub header_status : Option (List HeaderHunk) → Status
header_status None = status.Ok
header_status (Some hunks) = status.NeedsBases

-- So many bytes of the piece were taken, or it is refused.
abbrev pub IsHeaderFed : (piece : List ℕ) (taken : ℕ) → HeaderState → Session → Answer → Type 0
IsHeaderFed piece taken old (Sizing new) answer = HasTaken piece taken old new × (new.refusal ≡ None) × (answer ≡ plain_answer (header_status new.hunks))
IsHeaderFed piece taken old (Stopped refused) answer = IsFedRefusal (old.bytes ++ piece) refused refused.fault × (answer ≡ refused.answer) × (taken ≡ 0)
IsHeaderFed piece taken old _ answer = ⊥

abbrev pub FeedsHeader : (piece : List ℕ) (taken : ℕ) (old new : Session) → Answer → Type 0
FeedsHeader piece taken (Sizing header) new answer = header.refusal ≡ None → IsHeaderFed piece taken header new answer
FeedsHeader piece taken (Stopped refused) new answer = TellsAgain (Stopped refused) new refused answer × (taken ≡ 0)
FeedsHeader piece taken old new answer = OutOfTurn old new answer × (taken ≡ 0)

-- ---- the bases

abbrev pub unplaced_answer : PlaceRefusal → Answer
unplaced_answer HeaderIncomplete = plain_answer status.WrongState
unplaced_answer (Place fault) = place_answer fault
unplaced_answer OutOfMemory = plain_answer status.OutOfMemory

-- Why the hunks of a header were not placed.
pub data IsUnplaced (bases : List ℕ) (header : HeaderState) (answer : Answer) : Type 0 where
  header_incomplete : header.hunks ≡ None → answer ≡ plain_answer status.WrongState → IsUnplaced bases header answer
  misplaced : (fault : PlaceFault) → CannotPlace bases fault header.hunks → answer ≡ place_answer fault → IsUnplaced bases header answer
  out_of_memory : header.hunks ≢ None → answer ≡ plain_answer status.OutOfMemory → IsUnplaced bases header answer

-- The file is loaded at these bases from now on; or nothing has changed.
abbrev pub IsPlaced : List ℕ → HeaderState → Session → Answer → Type 0
IsPlaced bases header (Loading loader) answer = HasFed bases header.bytes loader × CanPlace bases header.hunks × StaysPlaced bases header.bytes × (answer ≡ plain_answer status.Ok)
IsPlaced bases header (Sizing same) answer = (same ≡ header) × IsUnplaced bases header answer
IsPlaced bases header _ answer = ⊥

abbrev pub PlacesHunks : List ℕ → (old new : Session) → Answer → Type 0
PlacesHunks bases (Sizing header) new answer = IsPlaced bases header new answer
PlacesHunks bases (Stopped refused) new answer = TellsAgain (Stopped refused) new refused answer
PlacesHunks bases old new answer = OutOfTurn old new answer
