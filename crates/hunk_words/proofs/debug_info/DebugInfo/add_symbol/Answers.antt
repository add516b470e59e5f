-- named, so that a mistake is refused without a look for advice
use Rattle.std.proofs.Common.{rules}
use Rattle.hunk_words.proofs.debug_info.DebugInfo.add_symbol.Goals as goal

pub returns-clause-adds : goal.returns-clause-adds
returns-clause-adds g c = search rules
