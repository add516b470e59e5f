-- named, so that a mistake is refused without a look for advice
use Rattle.std.proofs.Common.{rules}
use Rattle.hunk_words.proofs.debug_info.DebugInfo.into_lists.Goals as goal

pub returns-clause-debugs : goal.returns-clause-debugs
returns-clause-debugs g c = search rules
