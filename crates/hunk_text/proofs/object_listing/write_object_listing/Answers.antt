-- The line of the file, and those of its units.
use Rattle.std.proofs.Common.{arith}
use Rattle.std.proofs.lemmas.Grind.{common_steps}
use Rattle.hunk_base.proofs.TextLemmas.{◌⨾◌, Puts-as}
use Rattle.hunk_text.proofs.object_listing.write_object_listing.Goals as goal

pub returns : goal.returns
returns g c = Puts-as (grind (arith, common_steps)) (c.write_object_line.ensures ⨾ c.write_units.ensures)
