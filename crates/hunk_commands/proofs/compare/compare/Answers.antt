-- What the run over the files returned, and whether the output passed on what it had taken.
use Rattle.std.proofs.KnownBytes.{Keeps-refl}
use Rattle.std.proofs.lemmas.Result.{err_from_is_err_and}
use Rattle.hunk_store.specs.Addresses.{input_of}
use Rattle.hunk_store.specs.Output.{printed_of}
use Rattle.hunk_commands.proofs.CompareLemmas.{IsCompareFailure-first, IsCompareFailure-second}
use Rattle.hunk_commands.proofs.PrintingLemmas.{kept_comparison}
use Rattle.hunk_commands.proofs.compare.compare.Goals as goal

pub returns-in_err-same-clause-err : goal.returns-in_err-same-clause-err
returns-in_err-same-clause-err g c =
    let p = err_from_is_err_and c.from_residual-in_err-same.result c.from_residual-in_err-same.ensures.1 in
    rw (p.1, p.2) (record { input = input_of g.S.File.Source.left g.S.File.Source.failed g.S.File.Source.ended c.in_ok-one.one c.compare_run.new.first; is_reader = record { from_start = c.in_ok-one.ensures.there; to_end = g.met.S.FileSystem.at_end _; may_fail = g.met.S.FileSystem.may_fail _ _ _ }; holds = record { input = input_of g.S.File.Source.left g.S.File.Source.failed g.S.File.Source.ended c.in_ok-other.other c.compare_run.new.second; is_reader = record { from_start = c.in_ok-other.ensures.there; to_end = g.met.S.FileSystem.at_end _; may_fail = g.met.S.FileSystem.may_fail _ _ _ }; holds = c.in_err-same.ensures.err } })

pub returns-in_err-flush-clause-err : goal.returns-in_err-flush-clause-err
returns-in_err-flush-clause-err g c =
    let p = err_from_is_err_and c.from_residual-in_err-flush.result c.from_residual-in_err-flush.ensures.1 in
    rw (p.1, p.2, c.in_err-flush.ensures.err)
    ((c.in_ok-same.same, record { input = input_of g.S.File.Source.left g.S.File.Source.failed g.S.File.Source.ended c.in_ok-one.one c.compare_run.new.first; is_reader = record { from_start = c.in_ok-one.ensures.there; to_end = g.met.S.FileSystem.at_end _; may_fail = g.met.S.FileSystem.may_fail _ _ _ }; holds = record { input = input_of g.S.File.Source.left g.S.File.Source.failed g.S.File.Source.ended c.in_ok-other.other c.compare_run.new.second; is_reader = record { from_start = c.in_ok-other.ensures.there; to_end = g.met.S.FileSystem.at_end _; may_fail = g.met.S.FileSystem.may_fail _ _ _ }; holds = kept_comparison c.args.with_symbols c.in_ok-same.same _ _ _ _ _ c.in_err-flush.ensures.same c.in_ok-same.ensures.ok } }), c.in_err-flush.ensures.failed)

pub returns-clause-ok : goal.returns-clause-ok
returns-clause-ok g c =
    (record { input = input_of g.S.File.Source.left g.S.File.Source.failed g.S.File.Source.ended c.in_ok-one.one c.compare_run.new.first; is_reader = record { from_start = c.in_ok-one.ensures.there; to_end = g.met.S.FileSystem.at_end _; may_fail = g.met.S.FileSystem.may_fail _ _ _ }; holds = record { input = input_of g.S.File.Source.left g.S.File.Source.failed g.S.File.Source.ended c.in_ok-other.other c.compare_run.new.second; is_reader = record { from_start = c.in_ok-other.ensures.there; to_end = g.met.S.FileSystem.at_end _; may_fail = g.met.S.FileSystem.may_fail _ _ _ }; holds = kept_comparison c.args.with_symbols c.in_ok-same.same _ _ _ _ _ c.in_ok-flush.ensures.same c.in_ok-same.ensures.ok } }, c.in_ok-flush.ensures.flushed)

pub returns-in_err-one-clause-err : goal.returns-in_err-one-clause-err
returns-in_err-one-clause-err g c =
    let p = err_from_is_err_and c.from_residual.result c.from_residual.ensures.1 in
    let printed = printed_of g.O.Sink.taken g.O.Sink.failed g.O.Output.waiting c.args.output.now c.args.output.now in
    rw (p.1, p.2) (IsCompareFailure-first c.args.with_symbols (g.S.FileSystem.content c.args.store.now) c.args.first c.args.second printed (Keeps-refl printed.old) _ c.in_err-one.ensures.err)

pub returns-in_err-other-clause-err : goal.returns-in_err-other-clause-err
returns-in_err-other-clause-err g c =
    let p = err_from_is_err_and c.from_residual-in_err-other.result c.from_residual-in_err-other.ensures.1 in
    let printed = printed_of g.O.Sink.taken g.O.Sink.failed g.O.Output.waiting c.args.output.now c.args.output.now in
    rw (p.1, p.2) (IsCompareFailure-second c.args.with_symbols (g.S.FileSystem.content c.args.store.now) c.args.first c.args.second printed (Keeps-refl printed.old) _ c.in_ok-one.ensures.there _ c.in_err-other.ensures.err)
