-- Not done: there is no memory for the name of the file, or the text was not printed.
use Rattle.std.proofs.Common.{◌∷◌, [], ap, inl, inr, refl}
use Rattle.std.proofs.KnownBytes.{Keeps-refl}
use Rattle.hunk_store.specs.Output.{printed_of}
use Rattle.hunk_commands.specs.Explain.{AreTextLines, IfAsked}
use Rattle.hunk_commands.specs.Text.{IsTextFailure}
use Rattle.hunk_commands.specs.Request.{OrExhausted}
use Rattle.hunk_tool.specs.declared.tool_fault.ToolFault.TheVariants as tool_fault
use Rattle.hunk_store.specs.declared.failure.Failure.TheVariants.{Tool}
use Rattle.hunk_commands.proofs.ExplainLemmas.{none_asked}
use Rattle.hunk_commands.proofs.RequestLemmas.{IsFailed-why, not_begun, out_of_memory_told}
use Rattle.hunk_commands.proofs.answers.answer_text.Goals as goal

pub returns-in_default : goal.returns-in_default
returns-in_default g c =
    let printed = printed_of g.O.Sink.taken g.O.Sink.failed g.O.Output.waiting c.args.output.now c.args.output.now in
    inr (not_begun g.W.Sink.taken g.W.Sink.failed (OrExhausted printed (IsTextFailure c.args.text (g.S.FileSystem.content c.args.store.now) c.args.file.now printed)) (IfAsked c.args.explain (AreTextLines (g.S.FileSystem.content c.args.store.now) (c.args.file.now ∷ []))) (c.args.file.now ∷ []) c.report_failure.result c.args.errors.now c.report_failure.new.errors (inl (refl, Keeps-refl printed.old)) (none_asked c.args.explain (AreTextLines (g.S.FileSystem.content c.args.store.now) (c.args.file.now ∷ [])) (Tool (tool_fault.OutOfMemory 0)) refl)
    (out_of_memory_told g.W.Sink.taken g.W.Sink.failed c.args.errors.now c.report_failure.new.errors [] c.out_of_memory.result c.report_failure.result c.out_of_memory.ensures c.report_failure.ensures.status c.report_failure.ensures.line))

pub returns-in-Err : goal.returns-in-Err
returns-in-Err g c =
    let printed = printed_of g.O.Sink.taken g.O.Sink.failed g.O.Output.waiting c.args.output.now c.print_text.new.output in
    inr (IsFailed-why g.W.Sink.taken g.W.Sink.failed (OrExhausted printed (IsTextFailure c.args.text (g.S.FileSystem.content c.args.store.now) c.args.file.now printed)) (IfAsked c.args.explain (AreTextLines (g.S.FileSystem.content c.args.store.now) (c.args.file.now ∷ []))) (c.args.file.now ∷ []) c.fail.result c.args.errors.now c.fail.new.errors c.in-Err.failure (inr c.in-Err.ensures.err) c.fail.ensures)

pub fail-requires : goal.fail-requires
fail-requires g c = ap (λ bytes. bytes ∷ []) c.in-Ok.ensures.ok
