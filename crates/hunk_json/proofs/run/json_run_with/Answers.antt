-- The document is that of the file that was read.
use Rattle.std.proofs.lemmas.Result.{err_from_is_err_and}
use Rattle.hunk_files.specs.HunkFile.{value_of}
use Rattle.hunk_tool.proofs.FileTextLemmas.{IsTextFault-read, IsTextFault-written, IsWritten-of}
use Rattle.hunk_json.specs.Run.{json_text_in, line_of}
use Rattle.hunk_json.proofs.RunLemmas.{HasText-line, line-fits}
use Rattle.hunk_json.proofs.run.json_run_with.Goals as goal

pub write_line-requires : goal.write_line-requires
write_line-requires g c = line-fits c.args.form c.in_ok-file.file _ _ c.in_ok-file.ensures.file

pub returns-in_err-file-clause-err : goal.returns-in_err-file-clause-err
returns-in_err-file-clause-err g c =
    let p = err_from_is_err_and c.from_residual.result c.from_residual.ensures.1 in
    rw (p.1, p.2)
    (IsTextFault-read g.row.A.Denot (json_text_in c.args.form) (g.R.Source.left c.args.reader.now) (g.R.Source.left c.read_placed.new.reader) (g.R.Source.failed c.read_placed.new.reader) (g.R.Source.ended c.read_placed.new.reader) (g.W.Sink.taken c.args.writer.now) (g.W.Sink.failed c.args.writer.now) _ c.in_err-file.ensures.refused)

pub returns-in_err-write_line-clause-err : goal.returns-in_err-write_line-clause-err
returns-in_err-write_line-clause-err g c =
    let p = err_from_is_err_and c.from_residual-in_err-write_line.result c.from_residual-in_err-write_line.ensures.1 in
    let file = c.in_ok-file.file in
    let text = line_of c.args.form file.watcher.found.items (value_of file.value) in
    rw (p.1, p.2)
    (IsTextFault-written g.row.A.Denot (json_text_in c.args.form) g.W.Sink.taken g.W.Sink.failed c.args.writer.now c.write_line.new.writer text (g.R.Source.left c.args.reader.now) (g.R.Source.left c.read_placed.new.reader) (g.R.Source.failed c.read_placed.new.reader) (g.R.Source.ended c.read_placed.new.reader) _
    c.in_ok-file.ensures.ended (HasText-line c.args.form file _ _ c.in_ok-file.ensures.file) c.in_err-write_line.ensures.device c.in_err-write_line.ensures.wrote)

pub returns-clause-ok : goal.returns-clause-ok
returns-clause-ok g c =
    let file = c.in_ok-file.file in
    let text = line_of c.args.form file.watcher.found.items (value_of file.value) in
    IsWritten-of (json_text_in c.args.form) text _ _ _ _ (HasText-line c.args.form file _ _ c.in_ok-file.ensures.file) c.in_ok-write_line.ensures.wrote.0
