-- One more unit.
use Rattle.std.proofs.Common.{ap, arith}
use Rattle.std.specs.List.{flat_map}
use Rattle.hunk_base.proofs.TextLemmas.{Puts-as, Puts-numbered, numbered-all}
use Rattle.hunk_lint.specs.HunkLint.{unit_lints}
use Rattle.hunk_lint.proofs.hunk_lint.write_object_lints.Goals as goal

pub loop-number-preserved : goal.loop-number-preserved
loop-number-preserved g c =
    Puts-numbered g.W.Sink.taken g.W.Sink.failed unit_lints c.args.units.now c.loop-number.number c.index-units-number.result c.loop-number-test.true c.index-units-number.is c.loop-number.invariant c.write_unit.ensures

pub returns : goal.returns
returns g c = Puts-as (ap (flat_map unit_lints) (numbered-all c.args.units.now c.loop-number.number (omega arith))) c.loop-number.invariant
