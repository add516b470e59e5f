-- named, so that a mistake is refused without a look for advice
use Rattle.std.proofs.Common.{rules}
use Rattle.hunk_link.proofs.linking.link_units.Goals as goal

pub returns-clause-linkable : goal.returns-clause-linkable
returns-clause-linkable g c = search rules

pub returns-clause-file : goal.returns-clause-file
returns-clause-file g c = search rules

pub returns-clause-refused : goal.returns-clause-refused
returns-clause-refused g c = search rules
