-- What the run over the files returned, and whether the output passed on what it had taken.
use Rattle.std.proofs.Common.{◌≡◌, [], inl, inr, refl, IsTrue}
use Rattle.std.proofs.lemmas.Result.{err_from_is_err_and}
use Rattle.hunk_tool.specs.Inputs.{file_names}
use Rattle.hunk_store.specs.Addresses.{HaveNumbers, source_of}
use Rattle.hunk_store.specs.Inputs.{AreInputs}
use Rattle.hunk_store.specs.Output.{printed_of}
use Rattle.hunk_store.proofs.InputsLemmas.{OfFiles-inputs}
use Rattle.hunk_commands.specs.Image.{AreImaged, AreWrittenOf, IsImageFailure, is_stripped, units_text}
use Rattle.hunk_commands.proofs.PrintingLemmas.{kept_of_units, not_flushed, on_flushed}
use Rattle.hunk_commands.proofs.image.image.Goals as goal

pub returns-in_err-image_to-clause-err : goal.returns-in_err-image_to-clause-err
returns-in_err-image_to-clause-err g c =
    let p = err_from_is_err_and c.from_residual-in_err-image_to.result c.from_residual-in_err-image_to.ensures.1 in
    let contents = g.S.FileSystem.content c.args.store.now in
    let names = file_names c.args.files.now in
    let numbers_are : HaveNumbers contents (source_of c.args.addresses) c.as_slice.result.now = rw c.as_slice.ensures.value c.in_ok-bases.ensures.ok in
    let are : AreInputs g.S.FileSystem.content g.S.File.Source.left c.args.store.now names c.as_mut_slice.result.now = rw c.as_mut_slice.ensures.value c.in_ok-inputs.ensures.are in
    rw (p.1, p.2) (inr (inr (inl (record { bases = c.as_slice.result.now; numbers_are = numbers_are; holds = OfFiles-inputs g.S.FileSystem.content g.S.File.Source.left c.args.store.now g.S.File.Source.failed g.S.File.Source.ended g.met.S.FileSystem.at_end (λ input. input.may_fail) names _ _ _ c.image_to.auto.inputs are c.in_err-image_to.ensures.err }))))

pub returns-clause-ok : goal.returns-clause-ok
returns-clause-ok g c =
    let contents = g.S.FileSystem.content c.args.store.now in
    let source = source_of c.args.addresses in
    let names = file_names c.args.files.now in
    let printed = printed_of g.O.Sink.taken g.O.Sink.failed g.O.Output.waiting c.args.output.now c.flush.new.output in
    let numbers_are : HaveNumbers contents source c.as_slice.result.now = rw c.as_slice.ensures.value c.in_ok-bases.ensures.ok in
    let are : AreInputs g.S.FileSystem.content g.S.File.Source.left c.args.store.now names c.as_mut_slice.result.now = rw c.as_mut_slice.ensures.value c.in_ok-inputs.ensures.are in
    let written : AreWrittenOf c.args.text contents source names printed =
    record { bases = c.as_slice.result.now; numbers_are = numbers_are; holds = OfFiles-inputs g.S.FileSystem.content g.S.File.Source.left c.args.store.now g.S.File.Source.failed g.S.File.Source.ended g.met.S.FileSystem.at_end (λ input. input.may_fail) names _ _ _ c.image_to.auto.inputs are (kept_of_units (is_stripped c.args.text) (units_text c.args.text) c.as_slice.result.now _ _ _ _ c.flush.ensures.same c.in_ok-image_to.ensures.ok) } in
    on_flushed c.flush.result (g.O.Output.waiting c.flush.new.output ≡ []) (AreImaged c.args.text contents source names printed) (λ flushed. (written, flushed)) c.flush.ensures.flushed

pub returns-clause-err : goal.returns-clause-err
returns-clause-err g c =
    let contents = g.S.FileSystem.content c.args.store.now in
    let source = source_of c.args.addresses in
    let names = file_names c.args.files.now in
    let printed = printed_of g.O.Sink.taken g.O.Sink.failed g.O.Output.waiting c.args.output.now c.flush.new.output in
    let numbers_are : HaveNumbers contents source c.as_slice.result.now = rw c.as_slice.ensures.value c.in_ok-bases.ensures.ok in
    let are : AreInputs g.S.FileSystem.content g.S.File.Source.left c.args.store.now names c.as_mut_slice.result.now = rw c.as_mut_slice.ensures.value c.in_ok-inputs.ensures.are in
    let written : AreWrittenOf c.args.text contents source names printed =
    record { bases = c.as_slice.result.now; numbers_are = numbers_are; holds = OfFiles-inputs g.S.FileSystem.content g.S.File.Source.left c.args.store.now g.S.File.Source.failed g.S.File.Source.ended g.met.S.FileSystem.at_end (λ input. input.may_fail) names _ _ _ c.image_to.auto.inputs are (kept_of_units (is_stripped c.args.text) (units_text c.args.text) c.as_slice.result.now _ _ _ _ c.flush.ensures.same c.in_ok-image_to.ensures.ok) } in
    not_flushed c.flush.result (IsTrue (g.O.Sink.failed c.flush.new.output)) (IsImageFailure c.args.text contents source names printed) (λ failed. inr (inr (inr (refl, written, failed)))) c.flush.ensures.failed c.flush.ensures.err
