-- `grind` at once where `search`, which Rattle tries before it, is slow; and `search` named
-- where a mistake is then refused without a look for advice
use Rattle.std.proofs.Common.{arith, rules}
use Rattle.std.proofs.lemmas.Grind.{common_steps}
use Rattle.hunk_loadfile.proofs.rules.build_fault.Goals as goal

pub is_small-requires : goal.is_small-requires
is_small-requires g c = grind (arith, common_steps)

pub overflow_cast-result : goal.overflow_cast-result
overflow_cast-result g c = grind (arith, common_steps)

pub overflow_cast-result-in-Some-without_limit : goal.overflow_cast-result-in-Some-without_limit
overflow_cast-result-in-Some-without_limit g c = grind (arith, common_steps)

pub overflow_cast-result-in-Some-without_names : goal.overflow_cast-result-in-Some-without_names
overflow_cast-result-in-Some-without_names g c = grind (arith, common_steps)

pub returns-in-None-clause-typed : goal.returns-in-None-clause-typed
returns-in-None-clause-typed g c = grind (arith, common_steps)

pub returns-in-Some-clause-first : goal.returns-in-Some-clause-first
returns-in-Some-clause-first g c = search rules

pub returns-in-Some-without_limit-clause-first : goal.returns-in-Some-without_limit-clause-first
returns-in-Some-without_limit-clause-first g c = search rules
