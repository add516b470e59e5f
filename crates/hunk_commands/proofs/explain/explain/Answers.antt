use Rattle.std.proofs.lemmas.Result.{IfOk-weaker}
use Rattle.hunk_commands.proofs.ExplainLemmas.{EndsWith-found}
use Rattle.hunk_commands.proofs.explain.explain.Goals as goal

pub returns-in-Link-clause-ended : goal.returns-in-Link-clause-ended
returns-in-Link-clause-ended g c = IfOk-weaker c.explain_object.result _ _ (λ given ends. EndsWith-found given _ ends) c.explain_object.ensures.ended

pub returns-in-Load-clause-ended : goal.returns-in-Load-clause-ended
returns-in-Load-clause-ended g c = IfOk-weaker c.explain_load.result _ _ (λ given ends. EndsWith-found given _ ends) c.explain_load.ensures.ended

pub returns-in-Text-clause-ended : goal.returns-in-Text-clause-ended
returns-in-Text-clause-ended g c = IfOk-weaker c.explain_file.result _ _ (λ given ends. EndsWith-found given _ ends) c.explain_file.ensures.ended
