-- named, so that a mistake is refused without a look for advice
use Rattle.std.proofs.Common.{rules}
use Rattle.amihunk_c.proofs.loading.amihunk_c_feed.Goals as goal

pub returns-clause-fed : goal.returns-clause-fed
returns-clause-fed c = search rules
