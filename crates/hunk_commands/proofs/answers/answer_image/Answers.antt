-- Not done: there is no memory for the names of the files, or the image was not printed.
use Rattle.std.proofs.Common.{◌∙◌, [], ap, inl, inr, map, refl, string_bytes}
use Rattle.std.proofs.KnownBytes.{Keeps-refl}
use Rattle.hunk_tool.specs.Inputs.{file_names}
use Rattle.hunk_store.specs.Addresses.{source_of}
use Rattle.hunk_store.specs.Output.{printed_of}
use Rattle.hunk_commands.specs.Explain.{AreImageLines, IfAsked}
use Rattle.hunk_commands.specs.Image.{IsImageFailure}
use Rattle.hunk_commands.specs.Request.{OrExhausted}
use Rattle.hunk_tool.specs.declared.tool_fault.ToolFault.TheVariants as tool_fault
use Rattle.hunk_store.specs.declared.failure.Failure.TheVariants.{Tool}
use Rattle.hunk_commands.proofs.ExplainLemmas.{none_asked}
use Rattle.hunk_commands.proofs.RequestLemmas.{IsFailed-why, not_begun, out_of_memory_told}
use Rattle.hunk_commands.proofs.answers.answer_image.Goals as goal

pub returns-in_default : goal.returns-in_default
returns-in_default g c =
    let printed = printed_of g.O.Sink.taken g.O.Sink.failed g.O.Output.waiting c.args.output.now c.args.output.now in
    inr (not_begun g.W.Sink.taken g.W.Sink.failed (OrExhausted printed (IsImageFailure c.args.text (g.S.FileSystem.content c.args.store.now) (source_of c.args.addresses) (file_names c.args.files.now) printed)) (IfAsked c.args.explain (AreImageLines (g.S.FileSystem.content c.args.store.now) (source_of c.args.addresses) (file_names c.args.files.now))) (file_names c.args.files.now) c.report_failure.result c.args.errors.now c.report_failure.new.errors (inl (refl, Keeps-refl printed.old)) (none_asked c.args.explain (AreImageLines (g.S.FileSystem.content c.args.store.now) (source_of c.args.addresses) (file_names c.args.files.now)) (Tool (tool_fault.OutOfMemory 0)) refl)
    (out_of_memory_told g.W.Sink.taken g.W.Sink.failed c.args.errors.now c.report_failure.new.errors [] c.out_of_memory.result c.report_failure.result c.out_of_memory.ensures c.report_failure.ensures.status c.report_failure.ensures.line))

pub returns : goal.returns
returns g c =
    let printed = printed_of g.O.Sink.taken g.O.Sink.failed g.O.Output.waiting c.args.output.now c.image.new.output in
    inr (IsFailed-why g.W.Sink.taken g.W.Sink.failed (OrExhausted printed (IsImageFailure c.args.text (g.S.FileSystem.content c.args.store.now) (source_of c.args.addresses) (file_names c.args.files.now) printed)) (IfAsked c.args.explain (AreImageLines (g.S.FileSystem.content c.args.store.now) (source_of c.args.addresses) (file_names c.args.files.now))) (file_names c.args.files.now) c.fail.result c.args.errors.now c.fail.new.errors c.in-Err.failure (inr c.in-Err.ensures.err) c.fail.ensures)

pub fail-requires : goal.fail-requires
fail-requires g c = ap (map string_bytes) c.as_slice-names.ensures.value ∙ c.in-Ok.ensures
