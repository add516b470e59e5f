-- The lines of the names so far were put.
use Rattle.std.proofs.Common.{take}
use Rattle.std.specs.List.{flat_map}
use Rattle.hunk_base.specs.Text.{Puts}
use Rattle.hunk_origins.specs.Names.{entry_line}
use Rattle.hunk_origins.proofs.names.write_names.Given as goal

abbrev pub invariant-loop-entry : goal.invariant-loop-entry
invariant-loop-entry g l = Puts g.W.Sink.taken g.W.Sink.failed l.fn.text l.text (flat_map entry_line (take l.entry-index l.entry-items))
