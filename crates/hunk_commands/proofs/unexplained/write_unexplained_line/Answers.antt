-- The words were put between the beginning of the line and its end.
use Rattle.hunk_base.proofs.TextLemmas.{◌⨾◌}
use Rattle.hunk_commands.proofs.unexplained.write_unexplained_line.Goals as goal

pub returns : goal.returns
returns g c =
    let words = rw (c.as_bytes.ensures.value, c.unexplained_text.ensures) at c.put-2.ensures in
    c.put.ensures ⨾ (words ⨾ c.end_line.ensures)
