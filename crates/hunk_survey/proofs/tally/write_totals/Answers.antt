-- One line after the other.
use Rattle.hunk_base.proofs.TextLemmas.{◌⨾◌}
use Rattle.hunk_survey.proofs.tally.write_totals.Goals as goal

pub returns : goal.returns
returns g c = c.write_files.ensures ⨾ c.write_refused.ensures
