-- What was read is a file with that value, and is odd there.
use Rattle.hunk_words.specs.declared.event.FileKind.TheVariants as kind_is
use Rattle.hunk_lint.proofs.LintedLemmas.{HasRead-linted}
use Rattle.hunk_lint.proofs.linted.read_linted.Goals as goal

pub read_watched-requires-clause-object : goal.read_watched-requires-clause-object
read_watched-requires-clause-object g c = c.new-object.ensures kind_is.Object

pub read_watched-requires-clause-load : goal.read_watched-requires-clause-load
read_watched-requires-clause-load g c = c.new-load.ensures kind_is.Load

pub returns-in-Ok-clause-file : goal.returns-in-Ok-clause-file
returns-in-Ok-clause-file g c = HasRead-linted c.in-Ok.watched _ _ _ c.linted_file.ensures c.in-Ok.ensures.file
