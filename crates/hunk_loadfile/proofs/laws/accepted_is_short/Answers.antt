use Rattle.hunk_loadfile.proofs.RulesLemmas.{IsLoadFile-from, carried_longwords-accepted}
use Rattle.hunk_loadfile.proofs.WrittenFormLengthLemmas.{IsShortEnough-from}
use Rattle.hunk_loadfile.proofs.laws.accepted_is_short.Goals as goal

pub returns : goal.returns
returns c = λ hunks typed none. IsShortEnough-from hunks (IsLoadFile-from hunks none typed) (carried_longwords-accepted hunks none)
