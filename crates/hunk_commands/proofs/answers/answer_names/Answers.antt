-- Not done: there is no memory for the names of the files, or the names in them were not printed.
use Rattle.std.proofs.Common.{◌≡◌, ◌∙◌, [], ap, inl, inr, map, refl, subst}
use Rattle.std.proofs.KnownBytes.{Keeps-refl}
use Rattle.std.specs.String.{string_bytes}
use Rattle.hunk_tool.specs.Inputs.{file_names}
use Rattle.hunk_store.specs.Failure.{TellsLine, failure_line, status_of}
use Rattle.hunk_store.specs.Output.{printed_of}
use Rattle.hunk_commands.specs.Names.{IsNamesFailure}
use Rattle.hunk_commands.specs.Request.{NoMore, OrExhausted}
use Rattle.hunk_tool.specs.declared.tool_fault.ToolFault.TheVariants as tool_fault
use Rattle.hunk_store.specs.declared.failure.Failure.TheVariants.{Tool}
use Rattle.hunk_commands.proofs.RequestLemmas.{fails_with, out_of_memory_told}
use Rattle.hunk_commands.proofs.answers.answer_names.Goals as goal

pub returns-in_default : goal.returns-in_default
returns-in_default g c =
    let printed = printed_of g.O.Sink.taken g.O.Sink.failed g.O.Output.waiting c.args.output.now c.args.output.now in
    let files = file_names c.args.files.now in
    let told = out_of_memory_told g.W.Sink.taken g.W.Sink.failed c.args.errors.now c.report_failure.new.errors [] c.out_of_memory.result c.report_failure.result c.out_of_memory.ensures c.report_failure.ensures.status c.report_failure.ensures.line in
    inr (fails_with status_of g.W.Sink.taken g.W.Sink.failed (OrExhausted printed (IsNamesFailure (g.S.FileSystem.content c.args.store.now) files printed)) NoMore files c.report_failure.result c.args.errors.now c.report_failure.new.errors
    (Tool (tool_fault.OutOfMemory 0)) (inl (refl, Keeps-refl printed.old)) refl told.0 told.1)

pub returns : goal.returns
returns g c =
    let printed = printed_of g.O.Sink.taken g.O.Sink.failed g.O.Output.waiting c.args.output.now c.print_names.new.output in
    let files = file_names c.args.files.now in
    let names : map string_bytes c.as_slice.result.now ≡ files = ap (map string_bytes) c.as_slice.ensures.value ∙ c.in-Ok.ensures in
    let line = subst (λ told. TellsLine g.W.Sink.taken g.W.Sink.failed c.args.errors.now c.report_failure-in-Err.new.errors (failure_line told c.in-Err.failure)) names c.report_failure-in-Err.ensures.line in
    inr (fails_with status_of g.W.Sink.taken g.W.Sink.failed (OrExhausted printed (IsNamesFailure (g.S.FileSystem.content c.args.store.now) files printed)) NoMore files c.report_failure-in-Err.result c.args.errors.now c.report_failure-in-Err.new.errors
    c.in-Err.failure (inr c.in-Err.ensures.err) refl c.report_failure-in-Err.ensures.status line)
