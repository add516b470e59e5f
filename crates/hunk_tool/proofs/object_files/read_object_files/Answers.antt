-- Each turn reads the input that follows those which were read; the others are as they were.
use Rattle.std.proofs.Common.{◌+◌, ◌<◌, ◌++◌, ◌∷◌, [], List, length, set, take, subst, sym, arith}
use Rattle.hunk_objects.specs.ProgramUnit.{IsObjectOf}
use Rattle.hunk_tool.specs.Inputs.{AreObjects, HaveRead, inputs_of}
use Rattle.hunk_tool.specs.ObjectFiles.{AreFileUnits, AreUnitsFrom, FileUnit, placed, units_of}
use Rattle.hunk_tool.proofs.InputsLemmas.{HaveRead-next, HaveRead-weaker, IsInputFault-first, rest_more}
use Rattle.hunk_tool.proofs.ObjectFilesLemmas.{AreObjects-units, AreUnitsFrom-more}
use Rattle.hunk_tool.proofs.object_files.read_object_files.Goals as goal

pub returns-in-Err-clause-stopped : goal.returns-in-Err-clause-stopped
returns-in-Err-clause-stopped g c =
    let loop = c.loop-file in
    let units = loop.files in
    let read =
    HaveRead-weaker (inputs_of g.R.Source.left g.R.Source.failed g.R.Source.ended (take loop.file c.args.inputs.now) (take loop.file loop.inputs)) (AreFileUnits units) (λ files. AreObjects files (units_of units))
    (λ files are. AreObjects-units 0 files units are) loop.invariant.read in
    rw c.of_read.ensures
    (IsInputFault-first g.row.A.Denot g.R.Source.left g.R.Source.failed g.R.Source.ended c.args.inputs.now loop.inputs loop.file c.index-inputs-file.result c.read_object.new.reader (units_of units) c.in-Err.fault
    (omega (arith, c.loop-file-test.true)) loop.auto.inputs loop.invariant.rest read c.in-Err.ensures.refused)

pub loop-file-preserved : goal.loop-file-preserved
loop-file-preserved g c =
    let loop = c.loop-file in
    let file = loop.file in
    let within : file < length c.args.inputs.now = omega (arith, c.loop-file-test.true) in
    let before = loop.files in
    let more = c.in-Ok.units.items in
    record {
      rest = rest_more c.args.inputs.now loop.inputs file c.read_object.new.reader within loop.auto.inputs loop.invariant.rest;
      read =
          subst (λ (units : List FileUnit). HaveRead (inputs_of g.R.Source.left g.R.Source.failed g.R.Source.ended (take (file + 1) c.args.inputs.now) (take (file + 1) (set loop.inputs file c.read_object.new.reader))) (AreFileUnits units))
          (sym c.in_ok-files-in-Ok.ensures)
          (HaveRead-next g.R.Source.left g.R.Source.failed g.R.Source.ended c.args.inputs.now loop.inputs file c.index-inputs-file.result c.read_object.new.reader (AreFileUnits before) (AreFileUnits (before ++ placed file more)) (IsObjectOf more)
          (λ files bytes counted are is. subst (λ n. AreUnitsFrom 0 (files ++ bytes ∷ []) (before ++ placed n more)) (omega (arith, counted)) (AreUnitsFrom-more 0 files bytes before more are is))
          within loop.auto.inputs loop.invariant.rest loop.invariant.read c.in-Ok.ensures.file c.in-Ok.ensures.ended);
    }
