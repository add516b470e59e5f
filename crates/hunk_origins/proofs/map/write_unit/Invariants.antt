-- The lines of the hunks so far were put.
use Rattle.std.proofs.Common.{map}
use Rattle.hunk_origins.specs.Map.{map_from}
use Rattle.hunk_origins.specs.Origins.{unit_origins}
use Rattle.hunk_origins.proofs.BegunLemmas.{Begun}
use Rattle.hunk_origins.proofs.MapLemmas.{unit_rest}
use Rattle.hunk_origins.proofs.map.write_unit.Given as goal

abbrev pub invariant-loop-number : goal.invariant-loop-number
invariant-loop-number g l =
    let names = map g.N.FileName.bytes l.names in
    Begun g.W.Sink.taken g.W.Sink.failed l.fn.text l.text (map_from names l.first l.hunks (unit_origins (l.place, l.unit))) (unit_rest names l.first l.number l.hunks (l.place, l.unit))
