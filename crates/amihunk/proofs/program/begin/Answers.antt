-- There is no memory for the buffer of the output.
use Rattle.std.proofs.Common.{[], inr}
use Rattle.hunk_commands.proofs.RequestLemmas.{out_of_memory_told}
use Rattle.amihunk.proofs.program.begin.Goals as goal

pub returns-clause-begun : goal.returns-clause-begun
returns-clause-begun g c =
    inr (out_of_memory_told g.W.Sink.taken g.W.Sink.failed c.args.errors.now c.report_failure.new.errors [] c.out_of_memory.result c.report_failure.result c.out_of_memory.ensures c.report_failure.ensures.status c.report_failure.ensures.line)
