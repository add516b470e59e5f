-- The lines so far were put.
use Rattle.std.proofs.Common.{take}
use Rattle.std.specs.List.{flat_map}
use Rattle.hunk_base.specs.Text.{Puts}
use Rattle.hunk_lint.specs.LintText.{longword_line}
use Rattle.hunk_lint.proofs.lint_text.write_longwords.Given as goal

abbrev pub invariant-loop-lint : goal.invariant-loop-lint
invariant-loop-lint g l = Puts g.W.Sink.taken g.W.Sink.failed l.fn.text l.text (flat_map longword_line (take l.lint-index l.lints))
