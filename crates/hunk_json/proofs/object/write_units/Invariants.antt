-- The units so far were put.
use Rattle.std.proofs.Common.{drop}
use Rattle.hunk_json.specs.FileJson.{unit_json, units_at}
use Rattle.hunk_json.proofs.DocumentLemmas.{Listing}
use Rattle.hunk_json.proofs.object.write_units.Given as goal

abbrev pub invariant-loop-unit : goal.invariant-loop-unit
invariant-loop-unit g l = Listing g.W.Sink.taken g.W.Sink.failed l.form (unit_json l.form) l.fn.text l.text l.later (units_at l.left (drop l.unit-index l.units)) (units_at l.offsets l.units)
