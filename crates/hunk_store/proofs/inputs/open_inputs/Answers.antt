-- The next input, or why its file is not open.
use Rattle.std.proofs.Common.{take}
use Rattle.std.proofs.lemmas.Result.{err_from_is_err_and}
use Rattle.hunk_tool.specs.Inputs.{file_names}
use Rattle.hunk_store.proofs.InputsLemmas.{AreInputs-more, AreInputs-there, IsOpenFailure-opening}
use Rattle.hunk_store.proofs.inputs.open_inputs.Goals as goal

pub returns-in_err-input-clause-err : goal.returns-in_err-input-clause-err
returns-in_err-input-clause-err g c =
    let p = err_from_is_err_and c.from_residual.result c.from_residual.ensures.1 in
    rw (p.1, p.2) (IsOpenFailure-opening (g.S.FileSystem.content c.args.store.now) c.args.files.now c.loop-number.number _ _ c.loop-number-test.true (AreInputs-there g.S.FileSystem.content g.S.File.Source.left c.args.store.now (take c.loop-number.number (file_names c.args.files.now)) _ c.loop-number.invariant) c.in_err-input.ensures.err)

pub loop-number-preserved : goal.loop-number-preserved
loop-number-preserved g c =
    rw c.in-Ok.ensures.items
    (AreInputs-more g.S.FileSystem.content g.S.File.Source.left c.args.store.now c.args.files.now _ _ c.in_ok-input.input c.loop-number.number c.loop-number-test.true c.loop-number.invariant c.in_ok-input.ensures.is)
