-- The inputs are those of the files.
use Rattle.std.proofs.Common.{inr}
use Rattle.std.proofs.lemmas.Result.{err_from_is_err_and}
use Rattle.hunk_tool.specs.Inputs.{file_names}
use Rattle.hunk_store.specs.Inputs.{AreInputs}
use Rattle.hunk_store.proofs.InputsLemmas.{OfFiles-inputs}
use Rattle.hunk_commands.proofs.names.named_files.Goals as goal

pub returns-clause-ok : goal.returns-clause-ok
returns-clause-ok g c =
    let are : AreInputs g.S.FileSystem.content g.S.File.Source.left c.args.store.now (file_names c.args.files.now) c.as_mut_slice.result.now = rw c.as_mut_slice.ensures.value c.in_ok-inputs.ensures.are in
    OfFiles-inputs g.S.FileSystem.content g.S.File.Source.left c.args.store.now g.S.File.Source.failed g.S.File.Source.ended g.met.S.FileSystem.at_end (λ input. input.may_fail) (file_names c.args.files.now) _ _ _ c.read_named_files.auto.inputs are c.in_ok-read_named_files.ensures.read

pub returns-in_err-read_named_files-clause-err : goal.returns-in_err-read_named_files-clause-err
returns-in_err-read_named_files-clause-err g c =
    let p = err_from_is_err_and c.from_residual-in_err-read_named_files.result c.from_residual-in_err-read_named_files.ensures.1 in
    let are : AreInputs g.S.FileSystem.content g.S.File.Source.left c.args.store.now (file_names c.args.files.now) c.as_mut_slice.result.now = rw c.as_mut_slice.ensures.value c.in_ok-inputs.ensures.are in
    rw (p.1, p.2) (inr (OfFiles-inputs g.S.FileSystem.content g.S.File.Source.left c.args.store.now g.S.File.Source.failed g.S.File.Source.ended g.met.S.FileSystem.at_end (λ input. input.may_fail) (file_names c.args.files.now) _ _ _ c.read_named_files.auto.inputs are c.in_err-read_named_files.ensures.refused))
