-- The lines of each part.
use Rattle.std.proofs.Common.{arith}
use Rattle.std.proofs.lemmas.Grind.{common_steps}
use Rattle.hunk_base.proofs.TextLemmas.{◌⨾◌, Puts-as}
use Rattle.hunk_text.proofs.object_listing.write_hunk.Goals as goal

pub returns : goal.returns
returns g c = Puts-as (grind (arith, common_steps)) (c.write_hunk_line.ensures ⨾ c.write_sites.ensures ⨾ c.write_definitions.ensures ⨾ c.write_debug_lines.ensures)
