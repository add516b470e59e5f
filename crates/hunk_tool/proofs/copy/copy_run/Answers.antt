-- Each exit of the run, and the bytes that were written.
use Rattle.std.proofs.Common.{◌≡◌, ◌≤◌, ◌∙◌, subst}
use Rattle.std.specs.Io.KnownBytes.{Appends}
use Rattle.std.proofs.lemmas.Result.{err_from_is_err_and}
use Rattle.hunk_base.specs.Streams.{WriteStopped}
use Rattle.hunk_loadfile.specs.Rules.{carried_longwords, most_carried}
use Rattle.hunk_tool.specs.Copy.{CopyFits, copied}
use Rattle.hunk_tool.proofs.CopyLemmas.{IsCopied-written, IsCopyFault-large, IsCopyFault-unread, IsCopyFault-written, bytes-copied}
use Rattle.hunk_tool.proofs.copy.copy_run.Goals as goal

pub returns-in_err-file-clause-err : goal.returns-in_err-file-clause-err
returns-in_err-file-clause-err g c =
    let p = err_from_is_err_and c.from_residual.result c.from_residual.ensures.1 in
    rw (p.1, p.2)
    (IsCopyFault-unread g.row.A.Denot c.args.form (g.R.Source.left c.args.reader.now) (g.R.Source.left c.read_load.new.reader) (g.R.Source.failed c.read_load.new.reader) (g.R.Source.ended c.read_load.new.reader) (g.W.Sink.taken c.args.writer.now) (g.W.Sink.failed c.args.writer.now) _ c.in_err-file.ensures.refused)

pub returns-in_err-copy-clause-err : goal.returns-in_err-copy-clause-err
returns-in_err-copy-clause-err g c =
    let p = err_from_is_err_and c.from_residual-in_err-copy.result c.from_residual-in_err-copy.ensures.1 in
    rw (p.1, p.2)
    (IsCopyFault-large c.args.form c.in_ok-file.file c.copied.result (g.R.Source.left c.args.reader.now) (g.R.Source.left c.read_load.new.reader) (g.R.Source.failed c.read_load.new.reader) (g.R.Source.ended c.read_load.new.reader) (g.W.Sink.taken c.args.writer.now) (g.W.Sink.failed c.args.writer.now) _
    c.in_ok-file.ensures.file c.in_ok-file.ensures.ended c.copied.ensures c.in_err-copy.ensures.refused)

pub returns-in_err-write_load_with-clause-err : goal.returns-in_err-write_load_with-clause-err
returns-in_err-write_load_with-clause-err g c =
    let p = err_from_is_err_and c.from_residual-in_err-write_load_with.result c.from_residual-in_err-write_load_with.ensures.1 in
    let fault = c.in_err-write_load_with.field-0.0 in
    let copy_is : c.in_ok-copy.copy ≡ copied c.args.form c.in_ok-file.file = c.in_ok-copy.ensures.fits.0 ∙ c.copied.ensures in
    let fits : CopyFits c.args.form c.in_ok-file.file = subst (λ hunks. carried_longwords hunks ≤ most_carried) c.copied.ensures c.in_ok-copy.ensures.fits.1 in
    let bytes = bytes-copied c.args.form c.in_ok-file.file c.in_ok-copy.copy c.form.result c.form.ensures copy_is in
    rw (p.1, p.2)
    (IsCopyFault-written g.row.A.Denot g.W.Sink.taken g.W.Sink.failed c.args.writer.now c.write_load_with.new.writer c.args.form c.in_ok-file.file (g.R.Source.left c.args.reader.now) (g.R.Source.left c.read_load.new.reader) (g.R.Source.failed c.read_load.new.reader) (g.R.Source.ended c.read_load.new.reader) fault
    c.in_ok-file.ensures.file c.in_ok-file.ensures.ended fits
    (subst (λ text. WriteStopped g.W.Sink.taken g.W.Sink.failed c.args.writer.now c.write_load_with.new.writer text fault) bytes c.in_err-write_load_with.ensures.wrote))

pub returns-clause-ok : goal.returns-clause-ok
returns-clause-ok g c =
    let copy_is : c.in_ok-copy.copy ≡ copied c.args.form c.in_ok-file.file = c.in_ok-copy.ensures.fits.0 ∙ c.copied.ensures in
    let fits : CopyFits c.args.form c.in_ok-file.file = subst (λ hunks. carried_longwords hunks ≤ most_carried) c.copied.ensures c.in_ok-copy.ensures.fits.1 in
    let bytes = bytes-copied c.args.form c.in_ok-file.file c.in_ok-copy.copy c.form.result c.form.ensures copy_is in
    IsCopied-written c.args.form c.in_ok-file.file _ _ _ _ c.in_ok-file.ensures.file fits
    (subst (λ text. Appends (g.W.Sink.taken c.args.writer.now) (g.W.Sink.taken c.write_load_with.new.writer) text) bytes c.in_ok-write_load_with.ensures.wrote.0)
