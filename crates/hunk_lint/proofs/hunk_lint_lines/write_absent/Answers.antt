-- The pieces of the line, one after another.
use Rattle.std.proofs.Common.{◌≡◌, ◌≤◌, nat_le, true, ap, subst}
use Rattle.std.specs.Fmt.{decimal}
use Rattle.std.proofs.lemmas.Bool.{le-leb}
use Rattle.hunk_base.proofs.TextLemmas.{◌⨾◌, Puts-as}
use Rattle.hunk_lint.proofs.hunk_lint_lines.write_absent.Goals as goal

pub returns-then-count-from : goal.returns-then-count-from
returns-then-count-from g c =
    let absent : nat_le c.args.count c.args.target ≡ true = le-leb c.args.count c.args.target (subst (λ target. c.args.count ≤ target) c.from.ensures c.if-count-from.true) in
    let target = Puts-as (ap decimal c.from-then-count-from.ensures) c.put_decimal.ensures in
    rw absent
    (c.write_site.ensures ⨾ c.put.ensures ⨾ target ⨾ c.put-then-count-from.ensures ⨾ c.put_decimal-then-count-from.ensures ⨾ c.put-then-count-from-2.ensures
    ⨾ c.end_line.ensures)
