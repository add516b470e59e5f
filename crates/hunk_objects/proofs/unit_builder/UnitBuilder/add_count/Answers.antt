use Rattle.hunk_words.specs.EventValue.{count_to}
use Rattle.hunk_objects.proofs.UnitBuilderLemmas.{Holds-named}
use Rattle.hunk_objects.proofs.unit_builder.UnitBuilder.add_count.Goals as goal

pub returns : goal.returns
returns g c = λ told context h.
    Holds-named c.args.self.now c.add_count.new.self c.in-Name.named c.in-Name.name (λ t. count_to t c.args.count) c.add_count.result c.in-Ok.field-0 told context c.in-Ok.is c.in-Name.is c.add_count.ensures.takes h
