use Rattle.std.proofs.Common.{◌≡◌, drop, take}
use Rattle.hunk_tool.specs.Inputs.{HaveRead, inputs_of}
use Rattle.hunk_tool.specs.ObjectFiles.{AreFileUnits}
use Rattle.hunk_tool.proofs.object_files.read_object_files.Given as goal

abbrev pub invariant-loop-file : goal.invariant-loop-file
invariant-loop-file g l = record {
  rest : drop l.file l.inputs ≡ drop l.file l.fn.inputs;
  read : HaveRead (inputs_of g.R.Source.left g.R.Source.failed g.R.Source.ended (take l.file l.fn.inputs) (take l.file l.inputs)) (AreFileUnits l.files);
}
