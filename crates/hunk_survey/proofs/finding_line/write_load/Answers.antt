-- The number, and the digits of the digest.
use Rattle.hunk_base.proofs.TextLemmas.{◌⨾◌}
use Rattle.hunk_survey.proofs.finding_line.write_load.Goals as goal

pub returns-in-Some : goal.returns-in-Some
returns-in-Some g c = rw c.in-Some.is (c.put.ensures ⨾ c.put_decimal.ensures ⨾ c.put-in-Some.ensures ⨾ c.put_digest.ensures ⨾ c.end_line.ensures)
