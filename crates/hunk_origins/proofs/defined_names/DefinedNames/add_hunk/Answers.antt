-- All names of the hunk were added.
use Rattle.std.proofs.Common.{◌∙◌, ◌||◌, ℕ, List, ap}
use Rattle.std.proofs.lemmas.List.{take_all}
use Rattle.std.specs.List.{list_any}
use Rattle.hunk_objects.specs.declared.unit_hunk.Definition.{Definition}
use Rattle.hunk_origins.specs.DefinedNames.{is_name}
use Rattle.hunk_origins.proofs.defined_names.DefinedNames.add_hunk.Goals as goal

pub returns : goal.returns
returns g c = λ name.
    let own = c.definitions-name-items in
    let whole = take_all c.loop-name.name-index own.result.now c.loop-name-test.false ∙ own.ensures in
    c.loop-name.invariant name
    ∙ ap (λ (definitions : List (List ℕ × Definition)). list_any (is_name name) c.args.self.now || list_any (λ definition. is_name name definition.0) definitions) whole
