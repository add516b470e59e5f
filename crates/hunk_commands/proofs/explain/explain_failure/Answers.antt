-- Nothing is told: of what has no explanation, or once a write has failed.
use Rattle.std.proofs.Common.{IsTrue, rules}
use Rattle.hunk_tool.specs.Inputs.{file_names}
use Rattle.hunk_commands.proofs.ExplainLemmas.{tells_no_failure, tells_none}
use Rattle.hunk_commands.proofs.explain.explain_failure.Goals as goal

pub returns-then-failed-clause-told : goal.returns-then-failed-clause-told
returns-then-failed-clause-told g c =
    let failing : IsTrue (g.W.Sink.failed c.args.errors.now) = search (rules, c.if-failed.true, c.failed.ensures) in
    tells_no_failure g.W.Sink.taken g.W.Sink.failed c.args.errors.now (g.S.FileSystem.content c.args.store.now) c.args.command (file_names c.args.files.now) c.args.failure.now failing

pub returns-in-BadNumber-clause-told : goal.returns-in-BadNumber-clause-told
returns-in-BadNumber-clause-told g c = rw c.in-BadNumber.is (tells_none g.W.Sink.taken g.W.Sink.failed c.args.errors.now)

pub returns-in-TooManyAddresses-clause-told : goal.returns-in-TooManyAddresses-clause-told
returns-in-TooManyAddresses-clause-told g c = rw c.in-TooManyAddresses.is (tells_none g.W.Sink.taken g.W.Sink.failed c.args.errors.now)

pub returns-in-TooLong-clause-told : goal.returns-in-TooLong-clause-told
returns-in-TooLong-clause-told g c = rw c.in-TooLong.is (tells_none g.W.Sink.taken g.W.Sink.failed c.args.errors.now)

pub returns-in-BadName-clause-told : goal.returns-in-BadName-clause-told
returns-in-BadName-clause-told g c = rw c.in-BadName.is (tells_none g.W.Sink.taken g.W.Sink.failed c.args.errors.now)

pub returns-in-Writing-clause-told : goal.returns-in-Writing-clause-told
returns-in-Writing-clause-told g c = rw c.in-Writing.is (tells_none g.W.Sink.taken g.W.Sink.failed c.args.errors.now)

pub returns-in-SameFile-clause-told : goal.returns-in-SameFile-clause-told
returns-in-SameFile-clause-told g c = rw c.in-SameFile.is (tells_none g.W.Sink.taken g.W.Sink.failed c.args.errors.now)

pub returns-in-MapOverFile-clause-told : goal.returns-in-MapOverFile-clause-told
returns-in-MapOverFile-clause-told g c = rw c.in-MapOverFile.is (tells_none g.W.Sink.taken g.W.Sink.failed c.args.errors.now)

pub returns-in-Printing-clause-told : goal.returns-in-Printing-clause-told
returns-in-Printing-clause-told g c = rw c.in-Printing.is (tells_none g.W.Sink.taken g.W.Sink.failed c.args.errors.now)

-- named, so that a mistake is refused without a look for advice
pub returns-in-Tool-clause-told : goal.returns-in-Tool-clause-told
returns-in-Tool-clause-told g c = search rules
