-- The digits between quotes.
use Rattle.hunk_base.proofs.TextLemmas.{◌⨾◌}
use Rattle.hunk_survey.proofs.finding_json.write_digest.Goals as goal

pub returns-in-Some : goal.returns-in-Some
returns-in-Some g c = rw c.in-Some.is (c.put.ensures ⨾ c.put_digest.ensures ⨾ c.put-in-Some.ensures)
