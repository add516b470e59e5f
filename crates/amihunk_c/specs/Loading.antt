-- What the calls of loading make of a session, and what they answer.
use Rattle.std.specs.Global.{Global}
use Rattle.std.specs.Prelude.{◌≡◌, ℕ, List, [], ◌++◌, length, None}
use Rattle.hunk_words.specs.Files.{IsValidPrefix}
use Rattle.hunk_words.specs.FirstOffence.{EndsEarly, FirstOffence, OffendsAt}
use Rattle.hunk_base.specs.Longwords.{longwords, unfinished}
use Rattle.hunk_words.specs.declared.event.FileKind.TheVariants.{Load}
use Rattle.hunk_loader.specs.ImageLoader.{IsNotPlaced, LoadsAs, StandsFor, bases_of, refusal_of}
use Rattle.hunk_loader.specs.declared.image_loader.ImageLoader.{ImageLoader}
use Rattle.hunk_tool.specs.declared.tool_fault.ToolFault.{ToolFault}
use Rattle.hunk_tool.specs.declared.tool_fault.ToolFault.TheVariants.{Input, Place, OutOfMemory}
use Rattle.amihunk_c.specs.Answers.{plain_answer}
use Rattle.amihunk_c.specs.Refusals.{file_refused, memory_refused, place_refused}
use Rattle.amihunk_c.specs.Turns.{OutOfTurn, TellsAgain}
use Rattle.amihunk_c.specs.declared.answer.Answer.{Answer}
use Rattle.amihunk_c.specs.declared.codes.Status.TheVariants as status
use Rattle.amihunk_c.specs.declared.refused.Refused.{Refused}
use Rattle.amihunk_c.specs.declared.session.Session.{Session}
use Rattle.amihunk_c.specs.declared.session.Session.TheVariants.{Sizing, Loading, Loaded, Stopped}

-- The loader has these bases and was fed these bytes, and refused none of them.
pub record HasFed (bases bytes : List ℕ) (loader : ImageLoader Global) : Type 0 where
  pub given : bases_of loader ≡ bases
  pub stands : StandsFor loader bytes
  pub none : refusal_of loader ≡ None

-- A session begins with these bases, before the first byte.
abbrev pub BeginsLoader : List ℕ → Session → Type 0
BeginsLoader bases (Loading loader) = HasFed bases [] loader
BeginsLoader bases session = ⊥

-- ---- a piece

-- Why a piece was refused after which the bytes are these: their longwords offend there, or an
-- allocation failed.
abbrev pub IsFedRefusal : List ℕ → Refused → ToolFault Global → Type 0
IsFedRefusal bytes refused (Input file fault) = OffendsAt Load (longwords bytes) fault.place fault.reason × (refused ≡ file_refused fault 0)
IsFedRefusal bytes refused (OutOfMemory written) = refused ≡ memory_refused
IsFedRefusal bytes refused _ = ⊥

-- After a piece the bytes are these: they are a valid prefix, or refused.
abbrev pub IsFed : (bases bytes : List ℕ) → Session → Answer → Type 0
IsFed bases bytes (Loading loader) answer = HasFed bases bytes loader × IsValidPrefix Load (longwords bytes) × (answer ≡ plain_answer status.Ok)
IsFed bases bytes (Stopped refused) answer = IsFedRefusal bytes refused refused.fault × (answer ≡ refused.answer)
IsFed bases bytes _ answer = ⊥

abbrev pub FeedsLoader : List ℕ → (old new : Session) → Answer → Type 0
FeedsLoader piece (Loading loader) new answer = (bases bytes : List ℕ) → HasFed bases bytes loader → IsFed bases (bytes ++ piece) new answer
FeedsLoader piece (Stopped refused) new answer = TellsAgain (Stopped refused) new refused answer
FeedsLoader piece old new answer = OutOfTurn old new answer

-- ---- the end

-- Why a file of these bytes was not loaded at these bases. It is never that an allocation failed.
abbrev pub IsLoadRefusal : (bases bytes : List ℕ) → Refused → ToolFault Global → Type 0
IsLoadRefusal bases bytes refused (Input file fault) =
    FirstOffence Load (longwords bytes) (length (unfinished bytes)) fault.place fault.reason × (refused ≡ file_refused fault 0)
IsLoadRefusal bases bytes refused (Place fault) = IsNotPlaced bases bytes fault × (refused ≡ place_refused fault)
IsLoadRefusal bases bytes refused _ = ⊥

-- At the end of these bytes they are loaded, or refused.
abbrev pub IsFinished : (bases bytes : List ℕ) → Session → Answer → Type 0
IsFinished bases bytes (Loaded image) answer = LoadsAs bases bytes image × (answer ≡ plain_answer status.Ok)
IsFinished bases bytes (Stopped refused) answer = IsLoadRefusal bases bytes refused refused.fault × (answer ≡ refused.answer)
IsFinished bases bytes _ answer = ⊥

-- The file ends after these bytes, which are of its header: it ends too early.
abbrev pub IsEndRefusal : List ℕ → Refused → ToolFault Global → Type 0
IsEndRefusal bytes refused (Input file fault) = EndsEarly Load (longwords bytes) (length (unfinished bytes)) fault.place fault.reason × (refused ≡ file_refused fault 0)
IsEndRefusal bytes refused _ = ⊥

abbrev pub EndsInHeader : List ℕ → Session → Answer → Type 0
EndsInHeader bytes (Stopped refused) answer = IsEndRefusal bytes refused refused.fault × (answer ≡ refused.answer)
EndsInHeader bytes _ answer = ⊥

abbrev pub FinishesLoader : (old new : Session) → Answer → Type 0
FinishesLoader (Loading loader) new answer = (bases bytes : List ℕ) → HasFed bases bytes loader → IsFinished bases bytes new answer
FinishesLoader (Sizing header) new answer = header.refusal ≡ None → EndsInHeader header.bytes new answer
FinishesLoader (Stopped refused) new answer = TellsAgain (Stopped refused) new refused answer
FinishesLoader old new answer = OutOfTurn old new answer
