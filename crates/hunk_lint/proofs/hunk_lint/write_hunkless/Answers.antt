-- The pieces of the line, one after another.
use Rattle.std.proofs.Common.{◌≡◌, ◌==◌, true, eq-eqb}
use Rattle.hunk_base.proofs.TextLemmas.{◌⨾◌}
use Rattle.hunk_lint.proofs.hunk_lint.write_hunkless.Goals as goal

pub returns-then-count-eq0 : goal.returns-then-count-eq0
returns-then-count-eq0 g c =
    let none : (c.args.count == 0) ≡ true = eq-eqb c.args.count 0 c.if-count-eq0.true in
    rw none (c.put.ensures ⨾ c.put_decimal.ensures ⨾ c.put-then-count-eq0.ensures ⨾ c.end_line.ensures)
