-- The text was not printed.
use Rattle.std.proofs.Common.{[], inr, refl}
use Rattle.hunk_store.specs.Output.{IsUnprinted, printed_of}
use Rattle.hunk_commands.specs.Request.{NoMore, OrExhausted}
use Rattle.hunk_commands.proofs.RequestLemmas.{fails_with_line}
use Rattle.hunk_commands.proofs.answers.answer_version.Goals as goal

pub returns-in-Err : goal.returns-in-Err
returns-in-Err g c =
    let printed = printed_of g.O.Sink.taken g.O.Sink.failed g.O.Output.waiting c.args.output.now c.print_version.new.output in
    inr (fails_with_line g.W.Sink.taken g.W.Sink.failed (OrExhausted printed (IsUnprinted printed)) NoMore [] c.report_failure.result c.args.errors.now c.report_failure.new.errors c.in-Err.failure (inr c.in-Err.ensures.err) refl c.report_failure.ensures.status c.report_failure.ensures.line)
