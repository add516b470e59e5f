-- The pieces of the line, one after another.
use Rattle.std.proofs.Common.{ap}
use Rattle.hunk_base.proofs.TextLemmas.{◌⨾◌, Puts-as}
use Rattle.hunk_text.specs.Listing.{adds_hunk}
use Rattle.hunk_text.proofs.hunk_lines.write_hunk_site.Goals as goal

pub returns : goal.returns
returns g c = c.put.ensures ⨾ c.put_longword.ensures ⨾ c.put-2.ensures ⨾ Puts-as (ap adds_hunk c.from.ensures) c.write_hunk_number.ensures ⨾ c.end_line.ensures
