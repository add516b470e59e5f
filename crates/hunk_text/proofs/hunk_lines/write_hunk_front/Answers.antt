-- The pieces of the line, one after another.
use Rattle.std.proofs.Common.{arith}
use Rattle.std.proofs.lemmas.Grind.{common_steps}
use Rattle.hunk_base.proofs.TextLemmas.{◌⨾◌, Puts-as}
use Rattle.hunk_text.proofs.hunk_lines.write_hunk_front.Goals as goal

pub returns : goal.returns
returns g c = Puts-as (grind (arith, common_steps)) (c.write_hunk_number.ensures ⨾ c.put.ensures ⨾ c.put-2.ensures ⨾ c.put-3.ensures ⨾ c.put-4.ensures ⨾ c.put-5.ensures ⨾ c.put_decimal.ensures ⨾ c.put-6.ensures)
