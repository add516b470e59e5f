-- named, so that a mistake is refused without a look for advice
use Rattle.std.proofs.Common.{rules}
use Rattle.hunk_files.proofs.explain.explain_load.Goals as goal

pub returns-clause-explained : goal.returns-clause-explained
returns-clause-explained g c = search rules
