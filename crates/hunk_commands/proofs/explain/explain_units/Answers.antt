-- The lines about units that do not link, or why they are not told; and no lines where no units are read.
use Rattle.hunk_tool.specs.Inputs.{file_names}
use Rattle.hunk_commands.specs.Explain.{AreRefusalLinesOf, TellsMore}
use Rattle.hunk_commands.specs.declared.explain.Command.TheVariants as command
use Rattle.hunk_commands.proofs.ExplainLemmas.{of_either, tells_none, tells_or_why}
use Rattle.hunk_commands.proofs.explain.explain_units.Goals as goal

pub returns-in-Link : goal.returns-in-Link
returns-in-Link g c =
    let told = tells_or_why g.W.Sink.taken g.W.Sink.failed c.args.errors.now c.explain_refusal-told.new.errors c.tell_unexplained.new.errors _ _ c.explain_refusal-told.result c.explain_refusal-told.ensures c.tell_unexplained.ensures in
    of_either (λ it. TellsMore g.W.Sink.taken g.W.Sink.failed c.args.errors.now c.tell_unexplained.new.errors (AreRefusalLinesOf (g.S.FileSystem.content c.args.store.now) it (file_names c.args.files.now) c.args.refusal.now))
    c.args.command command.Link command.Image c.in-Link.is told (λ addresses. told)

pub returns-in-Load : goal.returns-in-Load
returns-in-Load g c = rw c.in-Load.is (tells_none g.W.Sink.taken g.W.Sink.failed c.args.errors.now)

pub returns-in-LoadFile : goal.returns-in-LoadFile
returns-in-LoadFile g c = rw c.in-LoadFile.is (tells_none g.W.Sink.taken g.W.Sink.failed c.args.errors.now)

pub returns-in-Text : goal.returns-in-Text
returns-in-Text g c = rw c.in-Text.is (tells_none g.W.Sink.taken g.W.Sink.failed c.args.errors.now)
