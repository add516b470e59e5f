-- A file that begins with what was read is itself read, longword by longword.
use Rattle.hunk_words.specs.declared.event.FileKind.TheVariants.{Object, Load}
use Rattle.hunk_words.proofs.FilesPrefixLemmas.{next-passes}
use Rattle.hunk_words.proofs.laws.refused_begins_none.Goals as goal

pub returns-clause-object : goal.returns-clause-object
returns-clause-object c = λ ws more w m t r f l. next-passes Object ws more w m t r f l

pub returns-clause-load : goal.returns-clause-load
returns-clause-load c = λ ws more w m t r f l. next-passes Load ws more w m t r f l
