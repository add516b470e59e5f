-- The pieces of the line, one after another.
use Rattle.hunk_base.proofs.TextLemmas.{◌⨾◌}
use Rattle.hunk_addresses.proofs.places_text.write_numbers.Goals as goal

pub returns : goal.returns
returns g c = c.put.ensures ⨾ c.put_decimal.ensures ⨾ c.put-2.ensures ⨾ c.put_decimal-2.ensures ⨾ c.end_line.ensures
