-- What the run over OUT returned, and whether OUT was replaced.
use Rattle.std.proofs.lemmas.Result.{IfErr-weaker}
use Rattle.hunk_tool.specs.Inputs.{file_names}
use Rattle.hunk_tool.specs.Link.{IsLinkFault, IsLinked, Taken}
use Rattle.hunk_store.specs.Inputs.{AreInputs, OfFiles, OfWholeFiles}
use Rattle.hunk_store.specs.Store.{IsCauseOf}
use Rattle.hunk_store.proofs.InputsLemmas.{OfFiles-inputs}
use Rattle.hunk_commands.specs.Link.{IsLinkFailure}
use Rattle.hunk_commands.proofs.LinkLemmas.{IsLinkFailure-run, IsMade-run}
use Rattle.hunk_commands.proofs.PrintingLemmas.{on_flushed}
use Rattle.hunk_commands.proofs.link.link.Goals as goal

pub returns-clause-ok : goal.returns-clause-ok
returns-clause-ok g c =
    let contents = g.S.FileSystem.content c.args.store.now in
    let names = file_names c.args.files.now in
    let taken : Taken = (record { old = g.S.New.Sink.taken c.in_ok-new.new; new = g.S.New.Sink.taken c.link_run_with-ran.new.writer; failed = g.S.New.Sink.failed c.link_run_with-ran.new.writer }) in
    let are : AreInputs g.S.FileSystem.content g.S.File.Source.left c.args.store.now (file_names c.args.files.now) c.as_mut_slice.result.now = rw c.as_mut_slice.ensures.value c.in_ok-inputs.ensures.are in
    IsMade-run c.args.globals c.args.options contents names c.args.out.now taken _ c.finish.result c.link_run_with-ran.result c.in_ok-new.ensures.begun
    (on_flushed c.link_run_with-ran.result _ (OfWholeFiles contents names (IsLinked c.args.globals c.args.options taken.old taken.new)) (λ read. OfFiles-inputs g.S.FileSystem.content g.S.File.Source.left c.args.store.now g.S.File.Source.failed g.S.File.Source.ended g.met.S.FileSystem.at_end (λ input. input.may_fail) (file_names c.args.files.now) _ _ _ c.link_run_with-ran.auto.inputs are read) c.link_run_with-ran.ensures.ok)
    c.finish.ensures.ran c.finish.ensures.replaced

pub returns-clause-err : goal.returns-clause-err
returns-clause-err g c =
    let contents = g.S.FileSystem.content c.args.store.now in
    let names = file_names c.args.files.now in
    let taken : Taken = (record { old = g.S.New.Sink.taken c.in_ok-new.new; new = g.S.New.Sink.taken c.link_run_with-ran.new.writer; failed = g.S.New.Sink.failed c.link_run_with-ran.new.writer }) in
    let are : AreInputs g.S.FileSystem.content g.S.File.Source.left c.args.store.now (file_names c.args.files.now) c.as_mut_slice.result.now = rw c.as_mut_slice.ensures.value c.in_ok-inputs.ensures.are in
    IfErr-weaker c.finish.result (IsCauseOf c.link_run_with-ran.result (contents c.args.out.now) c.args.out.now) (IsLinkFailure c.args.globals c.args.options contents names c.args.out.now)
    (λ failure is. IsLinkFailure-run c.args.globals c.args.options contents names c.args.out.now taken failure c.link_run_with-ran.result
    (on_flushed c.link_run_with-ran.result _ (OfWholeFiles contents names (IsLinked c.args.globals c.args.options taken.old taken.new)) (λ read. OfFiles-inputs g.S.FileSystem.content g.S.File.Source.left c.args.store.now g.S.File.Source.failed g.S.File.Source.ended g.met.S.FileSystem.at_end (λ input. input.may_fail) (file_names c.args.files.now) _ _ _ c.link_run_with-ran.auto.inputs are read) c.link_run_with-ran.ensures.ok)
    (IfErr-weaker c.link_run_with-ran.result _ (λ fault. OfFiles contents names (λ inputs. IsLinkFault c.args.globals c.args.options inputs taken fault)) (λ fault why. OfFiles-inputs g.S.FileSystem.content g.S.File.Source.left c.args.store.now g.S.File.Source.failed g.S.File.Source.ended g.met.S.FileSystem.at_end (λ input. input.may_fail) (file_names c.args.files.now) _ _ (λ inputs. IsLinkFault c.args.globals c.args.options inputs taken fault) c.link_run_with-ran.auto.inputs are why) c.link_run_with-ran.ensures.err)
    is) c.finish.ensures.cause
