-- The pieces of the line, one after another.
use Rattle.std.proofs.Common.{ap}
use Rattle.std.specs.Fmt.{decimal}
use Rattle.hunk_base.proofs.TextLemmas.{◌⨾◌, Puts-as}
use Rattle.hunk_lint.proofs.lint_text.write_longword.Goals as goal

pub returns : goal.returns
returns g c = c.put.ensures ⨾ Puts-as (ap decimal c.from.ensures) c.put_decimal.ensures ⨾ c.put-2.ensures ⨾ c.write_oddity.ensures ⨾ c.end_line.ensures
