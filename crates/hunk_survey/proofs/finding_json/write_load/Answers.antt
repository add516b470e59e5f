-- The number, and the digest if there is one.
use Rattle.hunk_base.proofs.TextLemmas.{◌⨾◌}
use Rattle.hunk_survey.proofs.finding_json.write_load.Goals as goal

pub returns : goal.returns
returns g c = c.put.ensures ⨾ c.put_decimal.ensures ⨾ c.write_digest.ensures
