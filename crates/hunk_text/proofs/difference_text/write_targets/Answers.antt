-- The pieces, one after another.
use Rattle.hunk_base.proofs.TextLemmas.{◌⨾◌}
use Rattle.hunk_text.proofs.difference_text.write_targets.Goals as goal

pub returns : goal.returns
returns g c =
    c.write_hunk_number.ensures ⨾ c.put.ensures ⨾ c.put_longword.ensures ⨾ c.put-2.ensures
    ⨾ (c.write_target.ensures ⨾ c.put-3.ensures ⨾ c.write_target-2.ensures)
