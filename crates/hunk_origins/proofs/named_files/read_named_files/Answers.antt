-- Other than one input are refused as object files.
use Rattle.std.proofs.Common.{◌≢◌, length, arith}
use Rattle.std.proofs.lemmas.Result.{err_from_is_err_and}
use Rattle.hunk_tool.specs.Inputs.{inputs_of}
use Rattle.hunk_tool.proofs.InputsLemmas.{length-inputs_of}
use Rattle.hunk_origins.proofs.NamedFilesLemmas.{AreRefused-several}
use Rattle.hunk_origins.proofs.named_files.read_named_files.Goals as goal

pub returns-in_err-read_object_files-clause-refused : goal.returns-in_err-read_object_files-clause-refused
returns-in_err-read_object_files-clause-refused g c =
    let p = err_from_is_err_and c.from_residual.result c.from_residual.ensures.1 in
    let before = c.args.inputs.now in
    let after = c.read_object_files.new.inputs in
    let inputs = inputs_of g.R.Source.left g.R.Source.failed g.R.Source.ended before after in
    let several : length inputs ≢ 1 = λ one. omega (arith, one, length-inputs_of g.R.Source.left g.R.Source.failed g.R.Source.ended before after, c.read_object_files.auto.inputs, c.if-inputs-eq1.false) in
    rw (p.1, p.2) (AreRefused-several inputs _ several c.in_err-read_object_files.ensures.stopped)
