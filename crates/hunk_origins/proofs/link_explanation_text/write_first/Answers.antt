-- The pieces of the line, one after another.
use Rattle.hunk_base.proofs.TextLemmas.{◌⨾◌}
use Rattle.hunk_origins.proofs.link_explanation_text.write_first.Goals as goal

pub returns-in-Some : goal.returns-in-Some
returns-in-Some g c = rw c.in-Some.is (c.put.ensures ⨾ c.write_origin.ensures ⨾ c.end_line.ensures)
