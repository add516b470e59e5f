-- named, so that a mistake is refused without a look for advice
use Rattle.std.proofs.Common.{rules}
use Rattle.hunk_words.proofs.partial_hunk.PartialHunk.into_parts.Goals as goal

pub returns-clause-content : goal.returns-clause-content
returns-clause-content g c = search rules
