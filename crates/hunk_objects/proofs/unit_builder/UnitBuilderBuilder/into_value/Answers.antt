-- case by case: over both, the tactics find the proof only slowly
use Rattle.std.proofs.Common.{◌≡◌, sym, subst, rules}
use Rattle.hunk_base.specs.Longwords.{longwords}
use Rattle.hunk_objects.specs.ProgramUnit.{IsObject}
use Rattle.hunk_objects.specs.UnitBuilder.{units_so_far}
use Rattle.hunk_objects.proofs.PartialLemmas.{units-object}
use Rattle.hunk_objects.proofs.unit_builder.UnitBuilderBuilder.into_value.Goals as goal
use Rattle.hunk_objects.proofs.unit_builder.UnitBuilderBuilder.into_value.Goals.{in-Some, in-None}

pub push_reserved-requires : goal.push_reserved-requires
push_reserved-requires g c = let room = c.requires.1.1.stands.room in search rules

pub returns : goal.returns
returns g c = λ bytes tells.
    let units : c.match-unit.units.items ≡ units_so_far c.args.self.units.items c.args.self.unit = elim c.match-unit.branch [ in-Some w ↦ search rules | in-None w ↦ search rules ] in
    record { whole = tells.0; is_object = subst (λ us. IsObject us (longwords bytes)) (sym units) (units-object c.args.self (longwords bytes) tells.1) }
