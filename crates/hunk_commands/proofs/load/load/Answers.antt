-- What the run over the file returned, and whether the output passed on what it had taken.
use Rattle.std.proofs.Common.{◌≡◌, [], inr, IsTrue}
use Rattle.std.proofs.lemmas.Result.{err_from_is_err_and}
use Rattle.hunk_store.specs.Addresses.{HaveNumbers, input_of, source_of}
use Rattle.hunk_store.specs.Output.{printed_of}
use Rattle.hunk_commands.specs.Load.{IsLoadFailure, IsLoaded, IsWrittenOf, text_of}
use Rattle.hunk_commands.proofs.PrintingLemmas.{kept_at, not_flushed, on_flushed}
use Rattle.hunk_commands.proofs.load.load.Goals as goal

pub returns-in_err-load_to-clause-err : goal.returns-in_err-load_to-clause-err
returns-in_err-load_to-clause-err g c =
    let p = err_from_is_err_and c.from_residual-in_err-load_to.result c.from_residual-in_err-load_to.ensures.1 in
    let numbers_are : HaveNumbers (g.S.FileSystem.content c.args.store.now) (source_of c.args.addresses) c.as_slice.result.now = rw c.as_slice.ensures.value c.in_ok-bases.ensures.ok in
    rw (p.1, p.2) (inr (record { bases = c.as_slice.result.now; numbers_are = numbers_are; holds = record { input = input_of g.S.File.Source.left g.S.File.Source.failed g.S.File.Source.ended c.in_ok-reader.reader c.load_to.new.reader; is_reader = record { from_start = c.in_ok-reader.ensures.there; to_end = g.met.S.FileSystem.at_end _; may_fail = g.met.S.FileSystem.may_fail _ _ _ }; holds = c.in_err-load_to.ensures.err } }))

pub returns-clause-ok : goal.returns-clause-ok
returns-clause-ok g c =
    let contents = g.S.FileSystem.content c.args.store.now in
    let source = source_of c.args.addresses in
    let printed = printed_of g.O.Sink.taken g.O.Sink.failed g.O.Output.waiting c.args.output.now c.flush.new.output in
    let numbers_are : HaveNumbers contents source c.as_slice.result.now = rw c.as_slice.ensures.value c.in_ok-bases.ensures.ok in
    let written : IsWrittenOf c.args.text contents source c.args.file.now printed =
    record { bases = c.as_slice.result.now; numbers_are = numbers_are; holds = record { input = input_of g.S.File.Source.left g.S.File.Source.failed g.S.File.Source.ended c.in_ok-reader.reader c.load_to.new.reader; is_reader = record { from_start = c.in_ok-reader.ensures.there; to_end = g.met.S.FileSystem.at_end _; may_fail = g.met.S.FileSystem.may_fail _ _ _ }; holds = (kept_at (text_of c.args.text) c.as_slice.result.now _ _ _ _ _ c.flush.ensures.same c.in_ok-load_to.ensures.ok, c.in_ok-load_to.ensures.ended) } } in
    on_flushed c.flush.result (g.O.Output.waiting c.flush.new.output ≡ []) (IsLoaded c.args.text contents source c.args.file.now printed) (λ flushed. (written, flushed)) c.flush.ensures.flushed

pub returns-clause-err : goal.returns-clause-err
returns-clause-err g c =
    let contents = g.S.FileSystem.content c.args.store.now in
    let source = source_of c.args.addresses in
    let printed = printed_of g.O.Sink.taken g.O.Sink.failed g.O.Output.waiting c.args.output.now c.flush.new.output in
    let numbers_are : HaveNumbers contents source c.as_slice.result.now = rw c.as_slice.ensures.value c.in_ok-bases.ensures.ok in
    let written : IsWrittenOf c.args.text contents source c.args.file.now printed =
    record { bases = c.as_slice.result.now; numbers_are = numbers_are; holds = record { input = input_of g.S.File.Source.left g.S.File.Source.failed g.S.File.Source.ended c.in_ok-reader.reader c.load_to.new.reader; is_reader = record { from_start = c.in_ok-reader.ensures.there; to_end = g.met.S.FileSystem.at_end _; may_fail = g.met.S.FileSystem.may_fail _ _ _ }; holds = (kept_at (text_of c.args.text) c.as_slice.result.now _ _ _ _ _ c.flush.ensures.same c.in_ok-load_to.ensures.ok, c.in_ok-load_to.ensures.ended) } } in
    not_flushed c.flush.result (IsTrue (g.O.Sink.failed c.flush.new.output)) (IsLoadFailure c.args.text contents source c.args.file.now printed) (λ failed. inr (written, failed)) c.flush.ensures.failed c.flush.ensures.err
