-- The pieces of the line, one after another.
use Rattle.std.proofs.Common.{◌≡◌, ◌%◌, true, eq-eqb}
use Rattle.hunk_base.proofs.TextLemmas.{◌⨾◌}
use Rattle.hunk_lint.specs.HunkLintLines.{is_odd}
use Rattle.hunk_lint.proofs.hunk_lint_lines.write_odd.Goals as goal

pub returns-then-site-eq1 : goal.returns-then-site-eq1
returns-then-site-eq1 g c =
    let odd : is_odd c.args.site ≡ true = eq-eqb (c.args.site % 2) 1 c.if-site-eq1.true in
    rw odd (c.write_site.ensures ⨾ c.put.ensures ⨾ c.end_line.ensures)
