-- Not begun: there is no memory for the names of the files; or the files with these names were linked, or not.
use Rattle.std.proofs.Common.{◌∙◌, [], ap, inl, inr, map, refl, string_bytes, subst}
use Rattle.hunk_tool.specs.Inputs.{file_names}
use Rattle.hunk_commands.specs.Explain.{AreLinkLines, IfAsked}
use Rattle.hunk_commands.specs.Link.{IsUndone}
use Rattle.hunk_commands.specs.Request.{EndsLinkOf, OrUntouched, given_text}
use Rattle.hunk_tool.specs.declared.tool_fault.ToolFault.TheVariants as tool_fault
use Rattle.hunk_store.specs.declared.failure.Failure.TheVariants.{Tool}
use Rattle.hunk_commands.proofs.ExplainLemmas.{none_asked}
use Rattle.hunk_commands.proofs.RequestLemmas.{not_begun, out_of_memory_told}
use Rattle.hunk_commands.proofs.link_request.answer_link_of_given.Goals as goal

pub returns-in_default : goal.returns-in_default
returns-in_default g c =
    let contents = g.S.FileSystem.content c.args.store.now in
    inr (not_begun g.W.Sink.taken g.W.Sink.failed (OrUntouched contents contents (IsUndone c.args.globals c.args.options (g.S.FileSystem.content c.args.store.now) (file_names c.args.files.now) c.args.out.now (given_text c.args.map_file) (g.S.FileSystem.content c.args.store.now))) (IfAsked c.args.explain (AreLinkLines (g.S.FileSystem.content c.args.store.now) (file_names c.args.files.now))) (file_names c.args.files.now) c.report_failure.result c.args.errors.now c.report_failure.new.errors (inl (refl, λ name. refl)) (none_asked c.args.explain (AreLinkLines (g.S.FileSystem.content c.args.store.now) (file_names c.args.files.now)) (Tool (tool_fault.OutOfMemory 0)) refl)
    (out_of_memory_told g.W.Sink.taken g.W.Sink.failed c.args.errors.now c.report_failure.new.errors [] c.out_of_memory.result c.report_failure.result c.out_of_memory.ensures c.report_failure.ensures.status c.report_failure.ensures.line))

pub returns : goal.returns
returns g c =
    subst (λ files. EndsLinkOf (g.S.FileSystem.content c.args.store.now) (g.S.FileSystem.content c.answer_link_of.new.store) g.W.Sink.taken g.W.Sink.failed c.args.errors.now c.answer_link_of.new.errors c.args.out.now (given_text c.args.map_file) c.args.options c.args.globals c.args.explain files c.answer_link_of.result)
    (ap (map string_bytes) c.as_slice-names.ensures.value ∙ c.in-Ok.ensures) c.answer_link_of.ensures
