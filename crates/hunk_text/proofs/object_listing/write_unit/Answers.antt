-- The line of the unit, and those of its hunks.
use Rattle.std.proofs.Common.{arith}
use Rattle.std.proofs.lemmas.Grind.{common_steps}
use Rattle.hunk_base.proofs.TextLemmas.{◌⨾◌, Puts-as}
use Rattle.hunk_text.proofs.object_listing.write_unit.Goals as goal

pub returns : goal.returns
returns g c = Puts-as (grind (arith, common_steps)) (c.write_unit_line.ensures ⨾ c.write_hunks.ensures)
