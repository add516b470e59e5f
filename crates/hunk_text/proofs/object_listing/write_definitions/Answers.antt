-- The line of one definition more.
use Rattle.hunk_base.proofs.TextLemmas.{Puts-more}
use Rattle.hunk_text.specs.Listing.{definition_line}
use Rattle.hunk_text.proofs.object_listing.write_definitions.Goals as goal

pub loop-definition-preserved : goal.loop-definition-preserved
loop-definition-preserved g c =
    Puts-more g.W.Sink.taken g.W.Sink.failed definition_line c.args.definitions.now c.loop-definition.definition-index c.definition-item.result c.definition-item.result
    c.loop-definition-test.true c.definition-item.is c.loop-definition.invariant c.write_definition.ensures
