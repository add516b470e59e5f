-- What a call makes of a handle, by what it makes of a session.
use Rattle.std.specs.Prelude.{◌≡◌, ℕ, Option, None, Some}
use Rattle.amihunk_c.specs.Answers.{plain_answer}
use Rattle.amihunk_c.specs.Codes.{status_code}
use Rattle.amihunk_c.specs.declared.answer.Answer.{Answer}
use Rattle.amihunk_c.specs.declared.codes.Status.{Status}
use Rattle.amihunk_c.specs.declared.codes.Status.TheVariants as status
use Rattle.amihunk_c.specs.declared.session.Session.{Session}

-- A call steps the session of an open handle; without a session it is out of turn, and the handle
-- stays.
abbrev pub StepsHandle : (Session → Session → Answer → Type 0) → (old new : Option Session) → Answer → Type 0
StepsHandle Steps None None answer = answer ≡ plain_answer status.WrongState
StepsHandle Steps (Some old) (Some new) answer = Steps old new answer
StepsHandle Steps old new answer = ⊥

-- A handle without a session has begun one, if its memory could be had; one with a session stays.
abbrev pub Begun : (Session → Type 0) → Option Session → ℕ → Type 0
Begun Begins None told = told ≡ status_code status.OutOfMemory
Begun Begins (Some session) told = Begins session × (told ≡ status_code status.Ok)

-- this session has begun, if its memory could be had
abbrev pub IsBegun : Session → Option Session → Status → Type 0
IsBegun session None told = told ≡ status.OutOfMemory
IsBegun session (Some begun) told = (begun ≡ session) × (told ≡ status.Ok)

abbrev pub OpensHandle : (Session → Type 0) → (old new : Option Session) → ℕ → Type 0
OpensHandle Begins None new told = Begun Begins new told
OpensHandle Begins (Some old) new told = (new ≡ Some old) × (told ≡ status_code status.WrongState)

-- what a handle shows by its session, or this without one
abbrev pub shown : {T : Type 0} → T → (Session → T) → Option Session → T
shown without show None = without
shown without show (Some session) = show session
