use Rattle.hunk_objects.proofs.UnitBuilderLemmas.{Steps-debug_word, Steps-unit_name}
use Rattle.hunk_objects.proofs.unit_builder.UnitBuilder.add_word.Goals as goal

pub returns-in-Some : goal.returns-in-Some
returns-in-Some g c =
    let e = c.add_name_word-in-Some.ensures in
    Steps-unit_name c.args.self.now c.in-Some.unit c.add_name_word-in-Some.new.self c.add_name_word-in-Some.result c.args.word c.in-UnitName.is c.in-Some.is e.same e.takes e.refuses

pub returns-in-Debug : goal.returns-in-Debug
returns-in-Debug g c =
    Steps-debug_word c.args.self.now c.add_debug_word.new.self c.add_debug_word.result c.args.word c.in-Debug.is c.add_debug_word.ensures.adds c.add_debug_word.ensures.refused
