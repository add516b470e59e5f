-- One more line.
use Rattle.std.proofs.Common.{refl}
use Rattle.hunk_base.proofs.TextLemmas.{Puts-more}
use Rattle.hunk_lint.specs.LintText.{longword_line}
use Rattle.hunk_lint.proofs.lint_text.write_longwords.Goals as goal

pub loop-lint-preserved : goal.loop-lint-preserved
loop-lint-preserved g c =
    Puts-more g.W.Sink.taken g.W.Sink.failed longword_line c.args.lints.now c.loop-lint.lint-index _ _ c.loop-lint-test.true refl c.loop-lint.invariant c.write_longword.ensures
