-- The text is that of the file that was read.
use Rattle.std.proofs.lemmas.Result.{err_from_is_err_and}
use Rattle.hunk_tool.proofs.FileTextLemmas.{IsTextFault-read, IsTextFault-written, IsWritten-of}
use Rattle.hunk_lint.specs.Run.{lint_text, lint_text_of}
use Rattle.hunk_lint.proofs.RunLemmas.{HasText-linted, few-linted, lint_text-fits}
use Rattle.hunk_lint.proofs.run.lint_run.Goals as goal

pub write_file-requires-clause-few : goal.write_file-requires-clause-few
write_file-requires-clause-few g c = few-linted c.in_ok-file.file _ _ c.in_ok-file.ensures.file

pub write_file-requires-clause-fits : goal.write_file-requires-clause-fits
write_file-requires-clause-fits g c = lint_text-fits c.in_ok-file.file _ _ c.in_ok-file.ensures.file

pub returns-in_err-file-clause-err : goal.returns-in_err-file-clause-err
returns-in_err-file-clause-err g c =
    let p = err_from_is_err_and c.from_residual.result c.from_residual.ensures.1 in
    rw (p.1, p.2) (IsTextFault-read g.row.A.Denot lint_text (g.R.Source.left c.args.reader.now) (g.R.Source.left c.read_linted.new.reader) (g.R.Source.failed c.read_linted.new.reader) (g.R.Source.ended c.read_linted.new.reader) (g.W.Sink.taken c.args.writer.now) (g.W.Sink.failed c.args.writer.now) _ c.in_err-file.ensures.refused)

pub returns-in_err-write_file-clause-err : goal.returns-in_err-write_file-clause-err
returns-in_err-write_file-clause-err g c =
    let p = err_from_is_err_and c.from_residual-in_err-write_file.result c.from_residual-in_err-write_file.ensures.1 in
    rw (p.1, p.2)
    (IsTextFault-written g.row.A.Denot lint_text g.W.Sink.taken g.W.Sink.failed c.args.writer.now c.write_file.new.writer (lint_text_of c.in_ok-file.file) (g.R.Source.left c.args.reader.now) (g.R.Source.left c.read_linted.new.reader) (g.R.Source.failed c.read_linted.new.reader) (g.R.Source.ended c.read_linted.new.reader) _
    c.in_ok-file.ensures.ended (HasText-linted c.in_ok-file.file _ _ c.in_ok-file.ensures.file) c.in_err-write_file.ensures.device c.in_err-write_file.ensures.wrote)

pub returns-clause-ok : goal.returns-clause-ok
returns-clause-ok g c = IsWritten-of lint_text (lint_text_of c.in_ok-file.file) _ _ _ _ (HasText-linted c.in_ok-file.file _ _ c.in_ok-file.ensures.file) c.in_ok-write_file.ensures.wrote.0
