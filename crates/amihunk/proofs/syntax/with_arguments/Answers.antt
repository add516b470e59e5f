use Rattle.std.proofs.lemmas.Result.{IfOk-weaker}
use Rattle.amihunk.proofs.SyntaxLemmas.{added_local, added_rules}
use Rattle.amihunk.proofs.syntax.with_arguments.Goals as goal

pub returns-clause-shape : goal.returns-clause-shape
returns-clause-shape c = IfOk-weaker c.args-2.result _ _ (λ r added. added_rules _ _ r added c.requires) c.args-2.ensures

pub returns-clause-local : goal.returns-clause-local
returns-clause-local c none = IfOk-weaker c.args-2.result _ _ (λ r added. added_local _ _ r added c.requires none) c.args-2.ensures
