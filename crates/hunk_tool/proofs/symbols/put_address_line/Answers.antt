-- The pieces of the line, one after another.
use Rattle.std.proofs.Common.{ap}
use Rattle.hunk_base.specs.Digits.{eight_digits}
use Rattle.hunk_base.specs.QuotedName.{quoted}
use Rattle.hunk_base.proofs.TextLemmas.{◌⨾◌, Puts-as}
use Rattle.hunk_tool.proofs.symbols.put_address_line.Goals as goal

pub returns : goal.returns
returns g c =
    let address = Puts-as (ap eight_digits c.symbol_address.ensures) c.put_longword.ensures in
    let name = Puts-as (ap quoted c.bytes.ensures.value) c.put_quoted.ensures in
    address ⨾ c.put.ensures ⨾ c.put_decimal.ensures ⨾ c.put-2.ensures ⨾ name ⨾ c.end_line.ensures
