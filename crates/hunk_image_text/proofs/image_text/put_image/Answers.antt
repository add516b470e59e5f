-- What comes before the hunks, the hunks, and what comes after them.
use Rattle.hunk_base.proofs.TextLemmas.{◌⨾◌, Puts-as}
use Rattle.hunk_image_text.proofs.image_text.put_image.Goals as goal

pub returns : goal.returns
returns g c = Puts-as c.opening.ensures c.put.ensures ⨾ (c.write_hunks.ensures ⨾ Puts-as c.closing.ensures c.put-2.ensures)
