-- The pieces, one after another.
use Rattle.std.proofs.Common.{ap}
use Rattle.std.specs.Fmt.{decimal}
use Rattle.hunk_base.proofs.TextLemmas.{◌⨾◌, Puts-as}
use Rattle.hunk_lint.proofs.hunk_lint_lines.write_bytes.Goals as goal

pub returns : goal.returns
returns g c = c.put.ensures ⨾ Puts-as (ap decimal c.byte_count.ensures) c.put_decimal.ensures ⨾ c.put-2.ensures
