-- What a call makes of a session that its stage does not allow, or that is stopped by a refusal.
use Rattle.std.specs.Prelude.{◌≡◌}
use Rattle.amihunk_c.specs.Answers.{plain_answer}
use Rattle.amihunk_c.specs.declared.answer.Answer.{Answer}
use Rattle.amihunk_c.specs.declared.codes.Status.TheVariants as status
use Rattle.amihunk_c.specs.declared.refused.Refused.{Refused}
use Rattle.amihunk_c.specs.declared.session.Session.{Session}

-- the call is out of turn: nothing changes
abbrev pub OutOfTurn : (old new : Session) → Answer → Type 0
OutOfTurn old new answer = (new ≡ old) × (answer ≡ plain_answer status.WrongState)

-- the refusal that is kept is told again
abbrev pub TellsAgain : (old new : Session) → Refused → Answer → Type 0
TellsAgain old new refused answer = (new ≡ old) × (answer ≡ refused.answer)
