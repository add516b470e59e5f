-- The lines about the files so far were written.
use Rattle.std.proofs.Common.{take}
use Rattle.hunk_tool.specs.Inputs.{file_names}
use Rattle.hunk_commands.specs.Survey.{AreTold}
use Rattle.hunk_commands.proofs.survey.tell_of_files.Given as goal

abbrev pub invariant-loop-name : goal.invariant-loop-name
invariant-loop-name g l =
    AreTold l.plan (g.S.FileSystem.content l.store) (take l.name-index (file_names l.files)) (g.O.Sink.taken l.fn.output) (g.O.Sink.taken l.output) l.tally
