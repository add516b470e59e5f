-- Not done: there is no memory for the name of the file, or the copy was not made.
use Rattle.std.proofs.Common.{◌∷◌, [], ap, inl, inr, refl}
use Rattle.hunk_store.specs.Store.{AreUnchanged}
use Rattle.hunk_commands.specs.Copy.{IsCopyFailure}
use Rattle.hunk_commands.specs.Explain.{AreLoadFileLines, IfAsked}
use Rattle.hunk_commands.specs.Request.{OrUntouched}
use Rattle.hunk_tool.specs.declared.tool_fault.ToolFault.TheVariants as tool_fault
use Rattle.hunk_store.specs.declared.failure.Failure.TheVariants.{Tool}
use Rattle.hunk_commands.proofs.ExplainLemmas.{none_asked}
use Rattle.hunk_commands.proofs.RequestLemmas.{IsFailed-why, not_begun, out_of_memory_told}
use Rattle.hunk_commands.proofs.answers.answer_copy.Goals as goal

pub returns-in_default : goal.returns-in_default
returns-in_default g c =
    let contents = g.S.FileSystem.content c.args.store.now in
    inr (not_begun g.W.Sink.taken g.W.Sink.failed (OrUntouched contents contents (λ failure. IsCopyFailure c.args.form (g.S.FileSystem.content c.args.store.now) c.args.file.now c.args.out.now failure × AreUnchanged (g.S.FileSystem.content c.args.store.now) (g.S.FileSystem.content c.args.store.now))) (IfAsked c.args.explain (AreLoadFileLines (g.S.FileSystem.content c.args.store.now) (c.args.file.now ∷ []))) (c.args.file.now ∷ []) c.report_failure.result c.args.errors.now c.report_failure.new.errors (inl (refl, λ name. refl)) (none_asked c.args.explain (AreLoadFileLines (g.S.FileSystem.content c.args.store.now) (c.args.file.now ∷ [])) (Tool (tool_fault.OutOfMemory 0)) refl)
    (out_of_memory_told g.W.Sink.taken g.W.Sink.failed c.args.errors.now c.report_failure.new.errors [] c.out_of_memory.result c.report_failure.result c.out_of_memory.ensures c.report_failure.ensures.status c.report_failure.ensures.line))

pub returns-in-Err : goal.returns-in-Err
returns-in-Err g c =
    inr (IsFailed-why g.W.Sink.taken g.W.Sink.failed (OrUntouched (g.S.FileSystem.content c.args.store.now) (g.S.FileSystem.content c.copy.new.store) (λ failure. IsCopyFailure c.args.form (g.S.FileSystem.content c.args.store.now) c.args.file.now c.args.out.now failure × AreUnchanged (g.S.FileSystem.content c.args.store.now) (g.S.FileSystem.content c.copy.new.store))) (IfAsked c.args.explain (AreLoadFileLines (g.S.FileSystem.content c.copy.new.store) (c.args.file.now ∷ []))) (c.args.file.now ∷ []) c.fail.result c.args.errors.now c.fail.new.errors c.in-Err.failure (inr (c.in-Err.ensures.err, c.in-Err.ensures.unchanged)) c.fail.ensures)

pub fail-requires : goal.fail-requires
fail-requires g c = ap (λ bytes. bytes ∷ []) c.in-Ok.ensures.ok
