-- The name, and what was found.
use Rattle.hunk_base.proofs.TextLemmas.{◌⨾◌}
use Rattle.hunk_survey.proofs.finding_line.write_finding.Goals as goal

pub returns-in-Object : goal.returns-in-Object
returns-in-Object g c = rw c.in-Object.is (c.write_name.ensures ⨾ c.put.ensures ⨾ c.write_object_line.ensures)

pub returns-in-Unopened : goal.returns-in-Unopened
returns-in-Unopened g c = rw c.in-Unopened.is (c.write_name.ensures ⨾ c.put.ensures ⨾ c.write_words-in-Unopened.ensures)

pub returns-in-Directory : goal.returns-in-Directory
returns-in-Directory g c = rw c.in-Directory.is (c.write_name.ensures ⨾ c.put.ensures ⨾ c.write_words-in-Directory.ensures)

pub returns-in-NotRegular : goal.returns-in-NotRegular
returns-in-NotRegular g c = rw c.in-NotRegular.is (c.write_name.ensures ⨾ c.put.ensures ⨾ c.write_words-in-NotRegular.ensures)
