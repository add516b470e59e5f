-- The line is that of the file that was read.
use Rattle.std.proofs.lemmas.Result.{err_from_is_err_and}
use Rattle.hunk_tool.specs.Check.{check_text, line_of}
use Rattle.hunk_tool.specs.FileText.{of_value}
use Rattle.hunk_tool.proofs.CheckLemmas.{HasText-counted}
use Rattle.hunk_tool.proofs.FileTextLemmas.{IsTextFault-read, IsTextFault-written, IsWritten-of}
use Rattle.hunk_tool.proofs.check.check_run.Goals as goal

pub returns-in_err-counted-clause-err : goal.returns-in_err-counted-clause-err
returns-in_err-counted-clause-err g c =
    let p = err_from_is_err_and c.from_residual.result c.from_residual.ensures.1 in
    rw (p.1, p.2) (IsTextFault-read g.row.A.Denot (of_value check_text) (g.R.Source.left c.args.reader.now) (g.R.Source.left c.count_file.new.reader) (g.R.Source.failed c.count_file.new.reader) (g.R.Source.ended c.count_file.new.reader) (g.W.Sink.taken c.args.writer.now) (g.W.Sink.failed c.args.writer.now) _ c.in_err-counted.ensures.refused)

pub returns-in_err-write_counts-clause-err : goal.returns-in_err-write_counts-clause-err
returns-in_err-write_counts-clause-err g c =
    let p = err_from_is_err_and c.from_residual-in_err-write_counts.result c.from_residual-in_err-write_counts.ensures.1 in
    rw (p.1, p.2)
    (IsTextFault-written g.row.A.Denot (of_value check_text) g.W.Sink.taken g.W.Sink.failed c.args.writer.now c.write_counts.new.writer (line_of c.in_ok-counted.counted) (g.R.Source.left c.args.reader.now) (g.R.Source.left c.count_file.new.reader) (g.R.Source.failed c.count_file.new.reader) (g.R.Source.ended c.count_file.new.reader) _
    c.in_ok-counted.ensures.ended (HasText-counted c.in_ok-counted.counted (g.R.Source.left c.args.reader.now) (g.R.Source.left c.count_file.new.reader) c.in_ok-counted.ensures.file) c.in_err-write_counts.ensures.device c.in_err-write_counts.ensures.wrote)

pub returns-clause-ok : goal.returns-clause-ok
returns-clause-ok g c = IsWritten-of (of_value check_text) (line_of c.in_ok-counted.counted) _ _ _ _ (HasText-counted c.in_ok-counted.counted _ _ c.in_ok-counted.ensures.file) c.in_ok-write_counts.ensures.wrote.0
