use Rattle.hunk_words.specs.EventValue.{value_to}
use Rattle.hunk_objects.proofs.UnitBuilderLemmas.{Holds-named}
use Rattle.hunk_objects.proofs.unit_builder.UnitBuilder.add_value.Goals as goal

pub returns : goal.returns
returns g c = λ told context h.
    Holds-named c.args.self.now c.add_value.new.self c.in-Name.named c.in-Name.name (λ t. value_to t c.args.value) c.add_value.result c.in-Ok.field-0 told context c.in-Ok.is c.in-Name.is c.add_value.ensures.takes h
