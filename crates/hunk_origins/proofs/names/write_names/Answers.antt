-- One more name, and all of them.
use Rattle.hunk_base.proofs.TextLemmas.{Puts-more}
use Rattle.hunk_origins.specs.Names.{entry_line}
use Rattle.hunk_origins.proofs.names.write_names.Goals as goal

pub loop-entry-preserved : goal.loop-entry-preserved
loop-entry-preserved g c =
    Puts-more g.W.Sink.taken g.W.Sink.failed entry_line c.deref-entry-items.result.now c.loop-entry.entry-index c.entry-item.result c.entry-item.result
    c.loop-entry-test.true c.entry-item.is c.loop-entry.invariant c.write_entry.ensures
