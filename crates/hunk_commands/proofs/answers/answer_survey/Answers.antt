-- The survey failed.
use Rattle.std.proofs.Common.{[], inr, refl}
use Rattle.hunk_tool.specs.Inputs.{file_names}
use Rattle.hunk_store.specs.FileList.{given_list}
use Rattle.hunk_store.specs.Output.{printed_of}
use Rattle.hunk_commands.specs.Request.{NoMore}
use Rattle.hunk_commands.specs.Survey.{IsSurveyFailure}
use Rattle.hunk_commands.proofs.RequestLemmas.{fails_with_line}
use Rattle.hunk_commands.proofs.answers.answer_survey.Goals as goal

pub returns-in-Err : goal.returns-in-Err
returns-in-Err g c =
    inr (fails_with_line g.W.Sink.taken g.W.Sink.failed (IsSurveyFailure c.args.options (g.S.FileSystem.content c.args.store.now) (file_names c.args.files.now) (given_list c.args.list) (printed_of g.O.Sink.taken g.O.Sink.failed g.O.Output.waiting c.args.output.now c.survey.new.output)) NoMore [] c.report_failure.result c.args.errors.now c.report_failure.new.errors c.in-Err.failure c.in-Err.ensures.err refl c.report_failure.ensures.status c.report_failure.ensures.line)
