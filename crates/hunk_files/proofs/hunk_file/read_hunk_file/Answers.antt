-- What was read is a file with that value.
use Rattle.std.proofs.lemmas.Result.{IfOk-weaker}
use Rattle.hunk_base.proofs.StreamsLemmas.{HasRead-weaker}
use Rattle.hunk_files.specs.FileValue.{kind_of_bytes}
use Rattle.hunk_files.proofs.HunkFileLemmas.{has_value}
use Rattle.hunk_files.proofs.hunk_file.read_hunk_file.Goals as goal

pub returns-clause-file : goal.returns-clause-file
returns-clause-file g c =
    IfOk-weaker c.read_file.result _ _
    (λ file read. HasRead-weaker _ _ _ _ (λ bytes is. has_value (kind_of_bytes bytes) file bytes is) read)
    c.read_file.ensures.file
