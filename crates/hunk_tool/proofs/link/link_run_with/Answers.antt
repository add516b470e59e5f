-- Each exit of the run, and the bytes that were written.
use Rattle.std.proofs.Common.{subst}
use Rattle.std.specs.Io.KnownBytes.{Appends}
use Rattle.std.proofs.lemmas.Result.{err_from_is_err_and}
use Rattle.hunk_base.specs.Streams.{WriteStopped}
use Rattle.hunk_loadfile.specs.Rules.{IsLoadFile}
use Rattle.hunk_tool.proofs.LinkLemmas.{IsLinkFault-unlinked, IsLinkFault-written, IsLinked-written, bytes-chosen}
use Rattle.hunk_tool.proofs.link.link_run_with.Goals as goal

pub returns-in_err-linked-clause-err : goal.returns-in_err-linked-clause-err
returns-in_err-linked-clause-err g c =
    let p = err_from_is_err_and c.from_residual.result c.from_residual.ensures.1 in
    rw (p.1, p.2)
    (IsLinkFault-unlinked c.args.globals c.args.options _ (g.W.Sink.taken c.args.writer.now) (g.W.Sink.failed c.args.writer.now) _ c.in_err-linked.ensures.unlinked)

pub returns-in_err-write_load_with-clause-err : goal.returns-in_err-write_load_with-clause-err
returns-in_err-write_load_with-clause-err g c =
    let p = err_from_is_err_and c.from_residual-in_err-write_load_with.result c.from_residual-in_err-write_load_with.ensures.1 in
    let fault = c.in_err-write_load_with.field-0.0 in
    let bytes = bytes-chosen c.args.options c.in_ok-linked.linked c.trimmed-file.result c.form.result c.form.ensures c.trimmed-file.ensures in
    rw (p.1, p.2)
    (IsLinkFault-written g.row.A.Denot g.W.Sink.taken g.W.Sink.failed c.args.writer.now c.write_load_with.new.writer c.args.globals c.args.options _ c.in_ok-linked.linked fault c.in_ok-linked.ensures.linked
    (subst (λ text. WriteStopped g.W.Sink.taken g.W.Sink.failed c.args.writer.now c.write_load_with.new.writer text fault) bytes c.in_err-write_load_with.ensures.wrote))

pub returns-clause-ok : goal.returns-clause-ok
returns-clause-ok g c =
    let bytes = bytes-chosen c.args.options c.in_ok-linked.linked c.trimmed-file.result c.form.result c.form.ensures c.trimmed-file.ensures in
    IsLinked-written _ c.args.globals c.args.options c.in_ok-linked.linked _ _ c.in_ok-linked.ensures.linked (subst IsLoadFile c.trimmed-file.ensures (subst IsLoadFile c.file.view_is c.file.invariant)) c.in_ok-linked.ensures.short
    (subst (λ text. Appends (g.W.Sink.taken c.args.writer.now) (g.W.Sink.taken c.write_load_with.new.writer) text) bytes c.in_ok-write_load_with.ensures.wrote.0)
