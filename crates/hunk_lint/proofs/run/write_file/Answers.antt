-- The line of the file is put into a text that is finished, and then the lines of what is odd about it.
use Rattle.std.proofs.Common.{[], rules}
use Rattle.hunk_base.proofs.TextLemmas.{◌⨾◌}
use Rattle.hunk_lint.specs.Run.{lint_text_of}
use Rattle.hunk_lint.proofs.run.write_file.Goals as goal

pub returns-clause-wrote : goal.returns-clause-wrote
returns-clause-wrote g c =
    let lines = c.write_kind.ensures ⨾ c.write_lints.ensures in
    let wrote = c.finish.ensures.counted c.args.writer.now (lint_text_of c.args.file.now) c.requires.fits (lines.adds _ [] c.new-text.ensures.empty) in
    search (rules, wrote)
