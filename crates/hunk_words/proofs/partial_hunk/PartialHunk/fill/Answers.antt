-- named, so that a mistake is refused without a look for advice
use Rattle.std.proofs.Common.{arith}
use Rattle.std.proofs.lemmas.Grind.{common_steps}
use Rattle.hunk_words.proofs.partial_hunk.PartialHunk.fill.Goals as goal

pub returns-clause-fills : goal.returns-clause-fills
returns-clause-fills g c = grind (arith, common_steps)
