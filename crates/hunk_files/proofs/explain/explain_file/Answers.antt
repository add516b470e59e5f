-- What was read is explained, as a file of its kind; its end is found only at the reader's end.
use Rattle.std.proofs.Common.{Ok, ap, ◌∙◌}
use Rattle.hunk_base.proofs.StreamsLemmas.{HasRead-weaker}
use Rattle.hunk_files.specs.Explanation.{IsExplained}
use Rattle.hunk_files.specs.FileDecoder.{inner}
use Rattle.hunk_files.specs.FileValue.{kind_of_bytes}
use Rattle.hunk_files.proofs.FollowerLemmas.{EndsWith-read, explained-file}
use Rattle.hunk_files.proofs.explain.explain_file.Goals as goal

pub returns-in-Ok-clause-explained : goal.returns-in-Ok-clause-explained
returns-in-Ok-clause-explained g c =
    rw c.into_inner.ensures
    (HasRead-weaker _ _ _ (λ bytes. IsExplained (kind_of_bytes bytes) (inner c.in-Ok.file) bytes)
    (λ bytes stands. explained-file (kind_of_bytes bytes) c.in-Ok.file bytes (c.in-Ok.ensures.value bytes stands)) c.in_ok-read_through.ensures.read)

pub returns-in-Ok-clause-ended : goal.returns-in-Ok-clause-ended
returns-in-Ok-clause-ended g c =
    let read = c.in_ok-read_through.ensures.read in
    let kind = kind_of_bytes read.bytes in
    rw c.into_inner.ensures
    (EndsWith-read kind read.bytes (inner c.in-Ok.file) (g.R.Source.ended c.read_through.new.reader) c.in_ok-read_through.field-0
    (λ is. c.read_through.ensures.ended (c.in_ok-read_through.was ∙ ap (λ b. Ok b) is))
    (λ is. let kept = c.read_through.ensures.faulty (c.in_ok-read_through.was ∙ ap (λ b. Ok b) is) in (kept.0, kept.1 read.bytes read.holds))
    (explained-file kind c.in-Ok.file read.bytes (c.in-Ok.ensures.value read.bytes read.holds)))
