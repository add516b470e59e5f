-- The pieces of the line, one after another.
use Rattle.hunk_base.proofs.TextLemmas.{◌⨾◌}
use Rattle.hunk_tool.proofs.fault_line.write_fault_line.Goals as goal

pub returns : goal.returns
returns g c = (c.put.ensures ⨾ c.write_fault_text.ensures) ⨾ c.end_line.ensures
