-- The line was told, and then more if it was asked for.
use Rattle.hunk_tool.specs.Inputs.{file_names}
use Rattle.hunk_commands.specs.Explain.{AreLinesOf, IfAsked}
use Rattle.hunk_commands.proofs.ExplainLemmas.{after_asked, after_nothing}
use Rattle.hunk_commands.proofs.RequestLemmas.{is_failed}
use Rattle.hunk_commands.proofs.answers.fail.Goals as goal

pub returns-then-explain : goal.returns-then-explain
returns-then-explain g c =
    let lines = AreLinesOf (g.S.FileSystem.content c.args.store.now) c.args.command (file_names c.args.files.now) in
    let told = c.report_failure-status in
    is_failed g.W.Sink.taken g.W.Sink.failed (IfAsked c.args.explain lines) _ _ told.result c.args.errors.now told.new.errors c.explain_failure.new.errors c.args.failure.now c.requires told.ensures.status told.ensures.line
    (after_asked g.W.Sink.taken g.W.Sink.failed c.args.explain lines c.args.failure.now told.new.errors c.explain_failure.new.errors c.if-explain.true (c.explain_failure.ensures.told, c.explain_failure.ensures.silent))

pub returns-else-explain : goal.returns-else-explain
returns-else-explain g c =
    let lines = AreLinesOf (g.S.FileSystem.content c.args.store.now) c.args.command (file_names c.args.files.now) in
    let told = c.report_failure-status in
    is_failed g.W.Sink.taken g.W.Sink.failed (IfAsked c.args.explain lines) _ _ told.result c.args.errors.now told.new.errors told.new.errors c.args.failure.now c.requires told.ensures.status told.ensures.line
    (after_nothing g.W.Sink.taken g.W.Sink.failed c.args.explain lines c.args.failure.now told.new.errors c.if-explain.false)
