-- The file was read, and then its symbols were written.
use Rattle.std.proofs.lemmas.Result.{IfErr-weaker, err_from_is_err_and}
use Rattle.hunk_tool.specs.Load.{ends_of}
use Rattle.hunk_tool.specs.Symbols.{symbols_text}
use Rattle.hunk_tool.proofs.SymbolsLemmas.{IsFaultAt-placed, IsFaultAt-unread, IsWrittenAt-placed}
use Rattle.hunk_tool.proofs.symbols.symbols_run.Goals as goal

pub returns-in_err-file-clause-err : goal.returns-in_err-file-clause-err
returns-in_err-file-clause-err g c =
    let p = err_from_is_err_and c.from_residual.result c.from_residual.ensures.1 in
    rw (p.1, p.2) (IsFaultAt-unread g.row.A.Denot (symbols_text c.args.form) c.args.bases.now (g.R.Source.left c.args.reader.now) (g.R.Source.left c.read_load.new.reader) (g.R.Source.failed c.read_load.new.reader) (g.R.Source.ended c.read_load.new.reader) (g.W.Sink.taken c.args.writer.now) (g.W.Sink.failed c.args.writer.now) _ c.in_err-file.ensures.refused)

pub returns-clause-ok : goal.returns-clause-ok
returns-clause-ok g c =
    IsWrittenAt-placed (symbols_text c.args.form) c.args.bases.now c.in_ok-file.file _ _
    (record { old = g.W.Sink.taken c.args.writer.now; new = g.W.Sink.taken c.write_symbols.new.writer; failed = g.W.Sink.failed c.write_symbols.new.writer })
    c.write_symbols.result c.in_ok-file.ensures.file c.write_symbols.ensures.ok

pub returns-clause-err : goal.returns-clause-err
returns-clause-err g c =
    let ends =
    ends_of (g.R.Source.left c.args.reader.now) (g.R.Source.left c.read_load.new.reader) (g.R.Source.failed c.read_load.new.reader) (g.R.Source.ended c.read_load.new.reader)
    (g.W.Sink.taken c.args.writer.now) (g.W.Sink.taken c.write_symbols.new.writer) (g.W.Sink.failed c.write_symbols.new.writer) in
    IfErr-weaker c.write_symbols.result _ _
    (λ fault is. IsFaultAt-placed g.row.A.Denot (symbols_text c.args.form) c.args.bases.now c.in_ok-file.file ends fault c.in_ok-file.ensures.ended c.in_ok-file.ensures.file is)
    c.write_symbols.ensures.err
