-- The lines about a file that is refused, or why they are not told; and no lines about what has no explanation.
use Rattle.hunk_commands.proofs.ExplainLemmas.{tells_none, tells_or_why}
use Rattle.hunk_commands.proofs.explain.explain_fault.Goals as goal

pub returns-in-Input : goal.returns-in-Input
returns-in-Input g c =
    let tells = tells_or_why g.W.Sink.taken g.W.Sink.failed c.args.errors.now c.explain_offence-told.new.errors c.tell_unexplained.new.errors _ _ c.explain_offence-told.result c.explain_offence-told.ensures c.tell_unexplained.ensures in
    rw c.in-Input.is (rw c.name_at-name.ensures at tells)

pub returns-in-Output : goal.returns-in-Output
returns-in-Output g c = rw c.in-Output.is (tells_none g.W.Sink.taken g.W.Sink.failed c.args.errors.now)

pub returns-in-OutOfMemory : goal.returns-in-OutOfMemory
returns-in-OutOfMemory g c = rw c.in-OutOfMemory.is (tells_none g.W.Sink.taken g.W.Sink.failed c.args.errors.now)
