-- The listing is that of the file that was read.
use Rattle.std.proofs.lemmas.Result.{err_from_is_err_and}
use Rattle.hunk_files.specs.HunkFile.{value_of}
use Rattle.hunk_tool.specs.Show.{show_text}
use Rattle.hunk_tool.specs.FileText.{of_value}
use Rattle.hunk_tool.proofs.ShowLemmas.{show_text-fits}
use Rattle.hunk_tool.proofs.FileTextLemmas.{HasText-read, IsTextFault-read, IsTextFault-written, IsWritten-of}
use Rattle.hunk_tool.proofs.show.show_run.Goals as goal

pub write_listing-requires : goal.write_listing-requires
write_listing-requires g c = show_text-fits (value_of c.in_ok-file.file) _ _ c.in_ok-file.ensures.file

pub returns-in_err-file-clause-err : goal.returns-in_err-file-clause-err
returns-in_err-file-clause-err g c =
    let p = err_from_is_err_and c.from_residual.result c.from_residual.ensures.1 in
    rw (p.1, p.2) (IsTextFault-read g.row.A.Denot (of_value show_text) (g.R.Source.left c.args.reader.now) (g.R.Source.left c.read_hunk_file.new.reader) (g.R.Source.failed c.read_hunk_file.new.reader) (g.R.Source.ended c.read_hunk_file.new.reader) (g.W.Sink.taken c.args.writer.now) (g.W.Sink.failed c.args.writer.now) _ c.in_err-file.ensures.refused)

pub returns-in_err-write_listing-clause-err : goal.returns-in_err-write_listing-clause-err
returns-in_err-write_listing-clause-err g c =
    let p = err_from_is_err_and c.from_residual-in_err-write_listing.result c.from_residual-in_err-write_listing.ensures.1 in
    rw (p.1, p.2)
    (IsTextFault-written g.row.A.Denot (of_value show_text) g.W.Sink.taken g.W.Sink.failed c.args.writer.now c.write_listing.new.writer (show_text (value_of c.in_ok-file.file)) (g.R.Source.left c.args.reader.now) (g.R.Source.left c.read_hunk_file.new.reader) (g.R.Source.failed c.read_hunk_file.new.reader) (g.R.Source.ended c.read_hunk_file.new.reader) _
    c.in_ok-file.ensures.ended (HasText-read show_text (value_of c.in_ok-file.file) _ _ c.in_ok-file.ensures.file) c.in_err-write_listing.ensures.device c.in_err-write_listing.ensures.wrote)

pub returns-clause-ok : goal.returns-clause-ok
returns-clause-ok g c =
    let value = value_of c.in_ok-file.file in
    IsWritten-of (of_value show_text) (show_text value) _ _ _ _ (HasText-read show_text value _ _ c.in_ok-file.ensures.file) c.in_ok-write_listing.ensures.wrote.0
