-- What was fed is a file with that value.
use Rattle.std.proofs.lemmas.Result.{IfOk-weaker}
use Rattle.hunk_files.specs.FileValue.{kind_of_bytes}
use Rattle.hunk_files.proofs.HunkFileLemmas.{has_value}
use Rattle.hunk_files.proofs.hunk_file.HunkFileDecoder.finish.Goals as goal

pub returns-clause-file : goal.returns-clause-file
returns-clause-file g c =
    IfOk-weaker c.finish.result _ _
    (λ file holds bytes stands. has_value (kind_of_bytes bytes) file bytes (holds bytes stands))
    c.finish.ensures.value
