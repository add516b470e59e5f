use Rattle.std.proofs.Common.{subst}
use Rattle.amihunk.specs.CommandLine.{Answers}
use Rattle.amihunk.proofs.refusal.refuse_file.Goals as goal

pub returns : goal.returns
returns c = subst (λ kind. Answers kind c.answer_to.result) c.in_ok-error.ensures.kind c.answer_to.ensures
