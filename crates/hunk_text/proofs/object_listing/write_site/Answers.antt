-- The pieces of the line, one after another.
use Rattle.std.proofs.Common.{ap}
use Rattle.hunk_base.specs.QuotedName.{quoted}
use Rattle.hunk_base.proofs.TextLemmas.{◌⨾◌, Puts-as}
use Rattle.hunk_text.proofs.object_listing.write_site.Goals as goal

pub returns-in-Reference : goal.returns-in-Reference
returns-in-Reference g c =
    rw c.in-Reference.is
    (c.put.ensures ⨾ c.put_longword.ensures ⨾ c.put-in-Reference.ensures ⨾ Puts-as (ap quoted c.name_at.ensures) c.put_quoted.ensures ⨾ c.end_line.ensures)
