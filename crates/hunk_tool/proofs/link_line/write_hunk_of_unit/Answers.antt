-- The pieces, one after another.
use Rattle.std.proofs.Common.{ap}
use Rattle.std.specs.Fmt.{decimal}
use Rattle.hunk_base.proofs.TextLemmas.{◌⨾◌, Puts-as}
use Rattle.hunk_tool.proofs.link_line.write_hunk_of_unit.Goals as goal

pub returns : goal.returns
returns g c = c.put.ensures ⨾ c.put_decimal.ensures ⨾ c.put-2.ensures ⨾ Puts-as (ap decimal c.from.ensures) c.put_decimal-2.ensures ⨾ c.put-3.ensures
