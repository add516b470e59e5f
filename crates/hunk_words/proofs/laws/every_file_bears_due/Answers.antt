-- A file that begins with what was taken is itself taken, field by field.
use Rattle.hunk_words.specs.declared.event.FileKind.TheVariants.{Object, Load}
use Rattle.hunk_words.proofs.FilesPrefixLemmas.{due-borne}
use Rattle.hunk_words.proofs.laws.every_file_bears_due.Goals as goal

pub returns-clause-object : goal.returns-clause-object
returns-clause-object c = λ fs gs g m t r f l. due-borne Object fs gs g m t r f l

pub returns-clause-load : goal.returns-clause-load
returns-clause-load c = λ fs gs g m t r f l. due-borne Load fs gs g m t r f l
