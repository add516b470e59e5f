-- One more longword of a name.
use Rattle.std.proofs.Common.{◌∙◌, ap, sym}
use Rattle.hunk_lint.specs.Oddity.{name_after}
use Rattle.hunk_lint.specs.Watch.{name_part}
use Rattle.hunk_lint.proofs.WatchLemmas.{name-more}
use Rattle.hunk_lint.proofs.watch.name_after.Goals as goal

pub returns-in-Word : goal.returns-in-Word
returns-in-Word c = λ name is. c.part_after_word.ensures ∙ name-more c.args.part c.args.word name is ∙ ap (λ due. name_part (name_after due c.args.word name)) (sym c.in-Word.is)
