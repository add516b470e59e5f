-- The units were linked, and then the symbols of their load file were written.
use Rattle.std.proofs.Common.{false}
use Rattle.std.proofs.lemmas.Result.{IfErr-weaker, err_from_is_err_and}
use Rattle.hunk_tool.specs.Link.{Taken}
use Rattle.hunk_tool.specs.Symbols.{unit_symbols_text}
use Rattle.hunk_tool.proofs.ImageLemmas.{IsUnitsFault-placed, IsUnitsFault-unlinked, IsUnitsText-placed}
use Rattle.hunk_tool.proofs.symbols.image_symbols_run.Goals as goal

pub returns-in_err-file-clause-err : goal.returns-in_err-file-clause-err
returns-in_err-file-clause-err g c =
    let p = err_from_is_err_and c.from_residual.result c.from_residual.ensures.1 in
    rw (p.1, p.2)
    (IsUnitsFault-unlinked false (unit_symbols_text c.args.form) c.args.bases.now _ (g.W.Sink.taken c.args.writer.now) (g.W.Sink.failed c.args.writer.now) _ c.in_err-file.ensures.unlinked)

pub returns-clause-ok : goal.returns-clause-ok
returns-clause-ok g c =
    IsUnitsText-placed _ c.args.form c.args.bases.now c.in_ok-file.file
    (record { old = g.W.Sink.taken c.args.writer.now; new = g.W.Sink.taken c.write_symbols.new.writer; failed = g.W.Sink.failed c.write_symbols.new.writer })
    c.write_symbols.result c.in_ok-file.ensures.linked c.write_symbols.ensures.ok

pub returns-clause-err : goal.returns-clause-err
returns-clause-err g c =
    let taken : Taken = record { old = g.W.Sink.taken c.args.writer.now; new = g.W.Sink.taken c.write_symbols.new.writer; failed = g.W.Sink.failed c.write_symbols.new.writer } in
    IfErr-weaker c.write_symbols.result _ _
    (λ fault is. IsUnitsFault-placed g.row.A.Denot _ c.args.form c.args.bases.now c.in_ok-file.file taken fault c.in_ok-file.ensures.linked is)
    c.write_symbols.ensures.err
