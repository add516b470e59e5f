-- The pieces of the line, one after another.
use Rattle.std.proofs.Common.{arith}
use Rattle.std.proofs.lemmas.Grind.{common_steps}
use Rattle.hunk_base.proofs.TextLemmas.{◌⨾◌, Puts-as}
use Rattle.hunk_text.proofs.object_listing.write_hunk_line.Goals as goal

pub returns : goal.returns
returns g c = Puts-as (grind (arith, common_steps)) (c.write_hunk_front.ensures ⨾ c.put.ensures ⨾ c.put_quoted.ensures ⨾ c.end_line.ensures)
