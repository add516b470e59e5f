-- The pieces of the line, one after another.
use Rattle.std.proofs.Common.{ap}
use Rattle.std.specs.Fmt.{decimal}
use Rattle.hunk_base.proofs.TextLemmas.{◌⨾◌, Puts-as}
use Rattle.hunk_lint.proofs.hunk_lint_lines.write_past_line.Goals as goal

pub returns : goal.returns
returns g c =
    let target = Puts-as (ap decimal c.from.ensures) c.put_decimal.ensures in
    c.write_site.ensures ⨾ c.put.ensures ⨾ c.put_longword.ensures ⨾ c.put-2.ensures ⨾ target ⨾ c.write_bytes.ensures ⨾ c.end_line.ensures
