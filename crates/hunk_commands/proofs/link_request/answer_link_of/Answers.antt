-- Not done: there is no memory for the texts of the names, or the link failed.
use Rattle.std.proofs.Common.{◌∙◌, [], ap, inl, inr, map, refl, string_bytes, subst, sym}
use Rattle.hunk_tool.specs.Inputs.{file_names}
use Rattle.hunk_commands.specs.Explain.{AreLinkLines, IfAsked}
use Rattle.hunk_commands.specs.Link.{IsUndone}
use Rattle.hunk_commands.specs.Request.{EndsLinkOf, OrUntouched, given_text}
use Rattle.hunk_tool.specs.declared.tool_fault.ToolFault.TheVariants as tool_fault
use Rattle.hunk_store.specs.declared.failure.Failure.TheVariants.{Tool}
use Rattle.hunk_commands.proofs.ExplainLemmas.{none_asked}
use Rattle.hunk_commands.proofs.RequestLemmas.{IsFailed-why, not_begun, out_of_memory_told}
use Rattle.hunk_commands.proofs.link_request.answer_link_of.Goals as goal

pub returns-in_default : goal.returns-in_default
returns-in_default g c =
    let contents = g.S.FileSystem.content c.args.store.now in
    let files = map string_bytes c.args.names.now in
    inr (not_begun g.W.Sink.taken g.W.Sink.failed (OrUntouched contents contents (IsUndone c.args.globals c.args.options contents files c.args.out.now (given_text c.args.map_file) contents)) (IfAsked c.args.explain (AreLinkLines contents files)) files c.report_failure.result c.args.errors.now c.report_failure.new.errors (inl (refl, λ name. refl)) (none_asked c.args.explain (AreLinkLines contents files) (Tool (tool_fault.OutOfMemory 0)) refl)
    (out_of_memory_told g.W.Sink.taken g.W.Sink.failed c.args.errors.now c.report_failure.new.errors [] c.out_of_memory.result c.report_failure.result c.out_of_memory.ensures c.report_failure.ensures.status c.report_failure.ensures.line))

pub returns : goal.returns
returns g c =
    let contents = g.S.FileSystem.content c.args.store.now in
    let then = g.S.FileSystem.content c.link_as_asked.new.store in
    let files = file_names c.as_slice-files.result.now in
    subst (λ names. EndsLinkOf contents then g.W.Sink.taken g.W.Sink.failed c.args.errors.now c.fail.new.errors c.args.out.now (given_text c.args.map_file) c.args.options c.args.globals c.args.explain names c.fail.result)
    (ap file_names c.as_slice-files.ensures.value ∙ c.in-Ok.ensures)
    (inr (IsFailed-why g.W.Sink.taken g.W.Sink.failed (OrUntouched contents then (IsUndone c.args.globals c.args.options contents files c.args.out.now (given_text c.args.map_file) then)) (IfAsked c.args.explain (AreLinkLines then files)) files c.fail.result c.args.errors.now c.fail.new.errors c.in-Err.failure (inr c.in-Err.ensures.err) c.fail.ensures))

pub link_as_asked-requires : goal.link_as_asked-requires
link_as_asked-requires g c = sym (ap file_names c.as_slice-files.ensures.value ∙ c.in-Ok.ensures)

pub fail-requires : goal.fail-requires
fail-requires g c = sym (ap file_names c.as_slice-files.ensures.value ∙ c.in-Ok.ensures)
