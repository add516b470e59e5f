-- What the run over OUT returned, and whether OUT was replaced.
use Rattle.std.proofs.Common.{[]}
use Rattle.std.proofs.lemmas.Result.{IfErr-weaker}
use Rattle.hunk_store.specs.Addresses.{input_of}
use Rattle.hunk_store.specs.Store.{IsCauseOf}
use Rattle.hunk_commands.specs.Copy.{IsCopyFailure}
use Rattle.hunk_commands.proofs.CopyLemmas.{IsCopiedOut-run, IsCopyFailure-run}
use Rattle.hunk_commands.proofs.copy.copy.Goals as goal

pub returns-clause-ok : goal.returns-clause-ok
returns-clause-ok g c =
    IsCopiedOut-run c.args.form (g.S.FileSystem.content c.args.store.now) c.args.file.now c.args.out.now (input_of g.S.File.Source.left g.S.File.Source.failed g.S.File.Source.ended c.in_ok-reader.reader c.copy_run-ran.new.reader) (record { from_start = c.in_ok-reader.ensures.there; to_end = g.met.S.FileSystem.at_end _; may_fail = g.met.S.FileSystem.may_fail _ _ _ })
    _ _ _ c.finish.result c.copy_run-ran.result c.in_ok-new.ensures.begun c.copy_run-ran.ensures.ok c.copy_run-ran.ensures.ended c.finish.ensures.ran c.finish.ensures.replaced

pub returns-clause-err : goal.returns-clause-err
returns-clause-err g c =
    let contents = g.S.FileSystem.content c.args.store.now in
    IfErr-weaker c.finish.result (IsCauseOf c.copy_run-ran.result (contents c.args.out.now) c.args.out.now) (IsCopyFailure c.args.form contents c.args.file.now c.args.out.now)
    (λ failure is. IsCopyFailure-run c.args.form contents c.args.file.now c.args.out.now (input_of g.S.File.Source.left g.S.File.Source.failed g.S.File.Source.ended c.in_ok-reader.reader c.copy_run-ran.new.reader) (record { from_start = c.in_ok-reader.ensures.there; to_end = g.met.S.FileSystem.at_end _; may_fail = g.met.S.FileSystem.may_fail _ _ _ })
    (record { old = g.S.New.Sink.taken c.in_ok-new.new; new = g.S.New.Sink.taken c.copy_run-ran.new.writer; failed = g.S.New.Sink.failed c.copy_run-ran.new.writer; waiting = [] }) failure c.copy_run-ran.result c.copy_run-ran.ensures.ok c.copy_run-ran.ensures.ended c.copy_run-ran.ensures.err is) c.finish.ensures.cause
