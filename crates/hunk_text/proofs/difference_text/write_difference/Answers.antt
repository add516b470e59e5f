-- The text of each difference, and the end of its line.
use Rattle.hunk_base.proofs.TextLemmas.{◌⨾◌}
use Rattle.hunk_text.proofs.difference_text.write_difference.Goals.{in-HunkCount, in-Kind, in-Memory, in-Size, in-Byte, in-Site}
use Rattle.hunk_text.proofs.difference_text.write_difference.Goals as goal

pub returns : goal.returns
returns g c =
    elim c.match-difference.branch [
      | in-HunkCount w ↦ rw w.in-HunkCount.is (w.write_counts.ensures ⨾ (rw w.text-is at c.end_line.ensures))
      | in-Kind w ↦ rw w.in-Kind.is (w.write_kinds.ensures ⨾ (rw w.text-is at c.end_line.ensures))
      | in-Memory w ↦ rw w.in-Memory.is (w.write_memories.ensures ⨾ (rw w.text-is at c.end_line.ensures))
      | in-Size w ↦ rw w.in-Size.is (w.write_sizes.ensures ⨾ (rw w.text-is at c.end_line.ensures))
      | in-Byte w ↦ rw w.in-Byte.is (w.write_bytes.ensures ⨾ (rw w.text-is at c.end_line.ensures))
      | in-Site w ↦ rw w.in-Site.is (w.write_targets.ensures ⨾ (rw w.text-is at c.end_line.ensures))
    ]
