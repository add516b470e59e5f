-- What the run over the file returned, and whether the output passed on what it had taken.
use Rattle.std.proofs.Common.{◌≡◌, [], IsTrue}
use Rattle.std.proofs.lemmas.Result.{err_from_is_err_and}
use Rattle.hunk_store.specs.Addresses.{input_of}
use Rattle.hunk_store.specs.Output.{printed_of}
use Rattle.hunk_commands.specs.Text.{IsTextFailure, IsTold, IsWrittenOf, text_of}
use Rattle.hunk_commands.proofs.PrintingLemmas.{kept_text, not_flushed, on_flushed}
use Rattle.hunk_commands.proofs.text.print_text.Goals as goal

pub returns-in_err-print_text_to-clause-err : goal.returns-in_err-print_text_to-clause-err
returns-in_err-print_text_to-clause-err g c =
    let p = err_from_is_err_and c.from_residual-in_err-print_text_to.result c.from_residual-in_err-print_text_to.ensures.1 in
    rw (p.1, p.2) (record { input = input_of g.S.File.Source.left g.S.File.Source.failed g.S.File.Source.ended c.in_ok-reader.reader c.print_text_to.new.reader; is_reader = record { from_start = c.in_ok-reader.ensures.there; to_end = g.met.S.FileSystem.at_end _; may_fail = g.met.S.FileSystem.may_fail _ _ _ }; holds = c.in_err-print_text_to.ensures.err })

pub returns-clause-ok : goal.returns-clause-ok
returns-clause-ok g c =
    let contents = g.S.FileSystem.content c.args.store.now in
    let printed = printed_of g.O.Sink.taken g.O.Sink.failed g.O.Output.waiting c.args.output.now c.flush.new.output in
    let written : IsWrittenOf c.args.text contents c.args.file.now printed =
    record { input = input_of g.S.File.Source.left g.S.File.Source.failed g.S.File.Source.ended c.in_ok-reader.reader c.print_text_to.new.reader; is_reader = record { from_start = c.in_ok-reader.ensures.there; to_end = g.met.S.FileSystem.at_end _; may_fail = g.met.S.FileSystem.may_fail _ _ _ }; holds = (kept_text (text_of c.args.text) _ _ _ _ _ c.flush.ensures.same c.in_ok-print_text_to.ensures.ok, c.in_ok-print_text_to.ensures.ended) } in
    on_flushed c.flush.result (g.O.Output.waiting c.flush.new.output ≡ []) (IsTold c.args.text contents c.args.file.now printed) (λ flushed. (written, flushed)) c.flush.ensures.flushed

pub returns-clause-err : goal.returns-clause-err
returns-clause-err g c =
    let contents = g.S.FileSystem.content c.args.store.now in
    let printed = printed_of g.O.Sink.taken g.O.Sink.failed g.O.Output.waiting c.args.output.now c.flush.new.output in
    let written : IsWrittenOf c.args.text contents c.args.file.now printed =
    record { input = input_of g.S.File.Source.left g.S.File.Source.failed g.S.File.Source.ended c.in_ok-reader.reader c.print_text_to.new.reader; is_reader = record { from_start = c.in_ok-reader.ensures.there; to_end = g.met.S.FileSystem.at_end _; may_fail = g.met.S.FileSystem.may_fail _ _ _ }; holds = (kept_text (text_of c.args.text) _ _ _ _ _ c.flush.ensures.same c.in_ok-print_text_to.ensures.ok, c.in_ok-print_text_to.ensures.ended) } in
    not_flushed c.flush.result (IsTrue (g.O.Sink.failed c.flush.new.output)) (IsTextFailure c.args.text contents c.args.file.now printed) (λ failed. (written, failed)) c.flush.ensures.failed c.flush.ensures.err
