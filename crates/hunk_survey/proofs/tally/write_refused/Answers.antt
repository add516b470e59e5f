-- The numbers, and the words between them.
use Rattle.hunk_base.proofs.TextLemmas.{◌⨾◌}
use Rattle.hunk_survey.proofs.tally.write_refused.Goals as goal

pub returns : goal.returns
returns g c = c.put_decimal.ensures ⨾ c.put.ensures ⨾ c.put_decimal-2.ensures ⨾ c.put-2.ensures ⨾ c.end_line.ensures
