-- The lines about hunks beside their addresses, or why they are not told; and no lines without addresses.
use Rattle.hunk_commands.proofs.ExplainLemmas.{tells_none, tells_or_why}
use Rattle.hunk_commands.proofs.explain.explain_places.Goals as goal

pub returns-in-Load : goal.returns-in-Load
returns-in-Load g c =
    let tells = tells_or_why g.W.Sink.taken g.W.Sink.failed c.args.errors.now c.explain_loaded_places-told.new.errors c.tell_unexplained.new.errors _ _ c.explain_loaded_places-told.result c.explain_loaded_places-told.ensures c.tell_unexplained.ensures in
    rw c.in-Load.is (rw c.name_at-name.ensures at tells)

pub returns-in-Image : goal.returns-in-Image
returns-in-Image g c =
    rw c.in-Image.is
    (tells_or_why g.W.Sink.taken g.W.Sink.failed c.args.errors.now c.explain_linked_places-told.new.errors c.tell_unexplained-in-Image.new.errors _ _ c.explain_linked_places-told.result c.explain_linked_places-told.ensures c.tell_unexplained-in-Image.ensures)

pub returns-in-Link : goal.returns-in-Link
returns-in-Link g c = rw c.in-Link.is (tells_none g.W.Sink.taken g.W.Sink.failed c.args.errors.now)

pub returns-in-LoadFile : goal.returns-in-LoadFile
returns-in-LoadFile g c = rw c.in-LoadFile.is (tells_none g.W.Sink.taken g.W.Sink.failed c.args.errors.now)

pub returns-in-Text : goal.returns-in-Text
returns-in-Text g c = rw c.in-Text.is (tells_none g.W.Sink.taken g.W.Sink.failed c.args.errors.now)
