-- What comes before the rows, and the rows.
use Rattle.hunk_base.proofs.TextLemmas.{◌⨾◌}
use Rattle.hunk_image_text.proofs.image_text.write_hunk.Goals as goal

pub returns : goal.returns
returns g c = c.write_heading.ensures ⨾ c.write_rows.ensures
