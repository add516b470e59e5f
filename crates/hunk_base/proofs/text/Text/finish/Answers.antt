-- named, so that a mistake is refused without a look for advice
use Rattle.std.proofs.Common.{rules}
use Rattle.hunk_base.proofs.text.Text.finish.Goals as goal

pub returns-then-stopped-clause-wrote : goal.returns-then-stopped-clause-wrote
returns-then-stopped-clause-wrote g c = search rules

pub returns-then-stopped-clause-counted : goal.returns-then-stopped-clause-counted
returns-then-stopped-clause-counted g c = search rules
