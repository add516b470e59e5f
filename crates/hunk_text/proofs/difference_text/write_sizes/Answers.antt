-- The pieces, one after another.
use Rattle.std.proofs.Common.{ℕ, ◌*◌, List, ap}
use Rattle.std.specs.Fmt.{decimal}
use Rattle.hunk_base.proofs.TextLemmas.{◌⨾◌, Puts-as}
use Rattle.hunk_text.proofs.difference_text.write_sizes.Goals as goal

abbrev bytes_text : ℕ → List ℕ
bytes_text size = decimal (4 * size)

pub returns : goal.returns
returns g c =
    let first = Puts-as (ap bytes_text c.from.ensures) c.put_decimal.ensures in
    let second = Puts-as (ap bytes_text c.from-2.ensures) c.put_decimal-2.ensures in
    c.write_hunk_number.ensures ⨾ c.put.ensures ⨾ (first ⨾ c.put-2.ensures ⨾ second)
