-- What is still expected can be taken up to where a file may end.
use Rattle.hunk_words.specs.declared.event.FileKind.TheVariants.{Object, Load}
use Rattle.hunk_words.proofs.FilesPrefixLemmas.{front}
use Rattle.hunk_words.proofs.laws.read_is_prefix.Goals as goal

pub returns-clause-object : goal.returns-clause-object
returns-clause-object c = λ ws m r. front Object ws m r

pub returns-clause-load : goal.returns-clause-load
returns-clause-load c = λ ws m r. front Load ws m r
