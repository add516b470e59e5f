-- A refusal at the end is that of the bytes read.
use Rattle.std.proofs.lemmas.Result.{err_from_is_err_and}
use Rattle.hunk_files.proofs.FileDecoderLemmas.{IsReadFault-end}
use Rattle.hunk_files.proofs.file_decoder.read_file.Goals as goal

pub returns-in_err-finish-clause-refused : goal.returns-in_err-finish-clause-refused
returns-in_err-finish-clause-refused g c =
    let p = err_from_is_err_and c.from_residual-in_err-finish.result c.from_residual-in_err-finish.ensures.1 in
    rw (p.1, p.2)
    (IsReadFault-end _ _ _ (g.R.Source.failed c.read_all.new.reader) (g.R.Source.ended c.read_all.new.reader) c.in_err-finish.field-0.0
    c.in_ok-read_all.ensures.ended c.in_ok-read_all.ensures.whole c.in_err-finish.ensures.refused)
