-- One more unit.
use Rattle.std.proofs.Common.{arith}
use Rattle.hunk_base.proofs.TextLemmas.{Puts-as, Puts-numbered, numbered-all}
use Rattle.std.proofs.Common.{ap}
use Rattle.std.specs.List.{flat_map}
use Rattle.hunk_text.specs.Listing.{unit_lines}
use Rattle.hunk_text.proofs.object_listing.write_units.Goals as goal

pub loop-number-preserved : goal.loop-number-preserved
loop-number-preserved g c =
    Puts-numbered g.W.Sink.taken g.W.Sink.failed unit_lines c.args.units.now c.loop-number.number c.index-units-number.result c.loop-number-test.true c.index-units-number.is c.loop-number.invariant c.write_unit.ensures

pub returns : goal.returns
returns g c = Puts-as (ap (flat_map unit_lines) (numbered-all c.args.units.now c.loop-number.number (omega arith))) c.loop-number.invariant
