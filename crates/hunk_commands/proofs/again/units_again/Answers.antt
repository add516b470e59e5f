-- The units are those of the files; or one of the files is no object file.
use Rattle.std.proofs.Common.{inr}
use Rattle.hunk_tool.specs.Inputs.{IsInputFault, file_names}
use Rattle.hunk_store.specs.Inputs.{AreInputs, OfFiles}
use Rattle.hunk_store.specs.declared.failure.Failure.TheVariants.{Tool}
use Rattle.hunk_store.proofs.InputsLemmas.{OfFiles-inputs}
use Rattle.hunk_commands.specs.Again.{AreNoUnits, MayLack}
use Rattle.hunk_commands.proofs.AgainLemmas.{fails_again}
use Rattle.hunk_commands.proofs.again.units_again.Goals as goal

pub returns-in-Ok-clause-units : goal.returns-in-Ok-clause-units
returns-in-Ok-clause-units g c =
    let are : AreInputs g.S.FileSystem.content g.S.File.Source.left c.args.store.now (file_names c.args.files.now) c.as_mut_slice.result.now = rw c.as_mut_slice.ensures.value c.in_ok-inputs.ensures.are in
    OfFiles-inputs g.S.FileSystem.content g.S.File.Source.left c.args.store.now g.S.File.Source.failed g.S.File.Source.ended g.met.S.FileSystem.at_end (λ input. input.may_fail) (file_names c.args.files.now) _ _ _ c.read_object_files.auto.inputs are
    c.in-Ok.ensures.read

pub returns-clause-err : goal.returns-clause-err
returns-clause-err g c =
    let contents = g.S.FileSystem.content c.args.store.now in
    let files = file_names c.args.files.now in
    let are : AreInputs g.S.FileSystem.content g.S.File.Source.left c.args.store.now files c.as_mut_slice.result.now = rw c.as_mut_slice.ensures.value c.in_ok-inputs.ensures.are in
    let refused : OfFiles contents files (λ inputs. IsInputFault inputs c.in-Err.fault) =
    OfFiles-inputs g.S.FileSystem.content g.S.File.Source.left c.args.store.now g.S.File.Source.failed g.S.File.Source.ended g.met.S.FileSystem.at_end (λ input. input.may_fail) files _ _ _ c.read_object_files.auto.inputs are c.in-Err.ensures.stopped in
    fails_again (MayLack contents files) (AreNoUnits contents files) (Tool c.in-Err.fault) c.from.result c.from.ensures (inr refused)
