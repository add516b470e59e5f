-- The inputs of the files so far.
use Rattle.std.proofs.Common.{take}
use Rattle.hunk_tool.specs.Inputs.{file_names}
use Rattle.hunk_store.specs.Inputs.{AreInputs}
use Rattle.hunk_store.proofs.inputs.open_inputs.Given as goal

abbrev pub invariant-loop-number : goal.invariant-loop-number
invariant-loop-number g l =
    AreInputs g.S.FileSystem.content g.S.File.Source.left l.store (take l.number (file_names l.files)) l.inputs.items
