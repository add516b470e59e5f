-- The pieces of the line, one after another.
use Rattle.std.proofs.Common.{◌*◌, ap}
use Rattle.std.specs.Fmt.{decimal}
use Rattle.hunk_base.proofs.TextLemmas.{◌⨾◌, Puts-as}
use Rattle.hunk_addresses.proofs.places_text.write_hunk.Goals as goal

pub returns : goal.returns
returns g c =
    let bytes = Puts-as (ap (λ size. decimal (4 * size)) c.from.ensures) c.put_decimal-2.ensures in
    c.put.ensures ⨾ c.put_decimal.ensures ⨾ c.put-2.ensures ⨾ bytes ⨾ c.put-3.ensures ⨾ c.write_address.ensures ⨾ c.end_line.ensures
