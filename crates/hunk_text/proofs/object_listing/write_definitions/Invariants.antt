-- The lines of the definitions so far were put.
use Rattle.std.proofs.Common.{take}
use Rattle.std.specs.List.{flat_map}
use Rattle.hunk_base.specs.Text.{Puts}
use Rattle.hunk_text.specs.Listing.{definition_line}
use Rattle.hunk_text.proofs.object_listing.write_definitions.Given as goal

abbrev pub invariant-loop-definition : goal.invariant-loop-definition
invariant-loop-definition g l = Puts g.W.Sink.taken g.W.Sink.failed l.fn.text l.text (flat_map definition_line (take l.definition-index l.definitions))
