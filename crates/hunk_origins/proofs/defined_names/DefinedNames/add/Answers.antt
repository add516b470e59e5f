use Rattle.std.proofs.Common.{◌∙◌, ◌||◌, ap}
use Rattle.std.specs.List.{list_any}
use Rattle.hunk_origins.specs.DefinedNames.{is_name}
use Rattle.hunk_origins.proofs.DefinedNamesLemmas.{list_any-insert}
use Rattle.hunk_origins.proofs.defined_names.DefinedNames.add.Goals as goal
use Rattle.hunk_origins.proofs.defined_names.DefinedNames.add.Goals.{in-Ok, in-Err}

pub returns : goal.returns
returns g c =
    elim c.match-insert.branch [
      | in-Ok w ↦ rw w.result-is (λ other.
          ap (list_any (is_name other)) w.in-Ok.ensures.keys
          ∙ list_any-insert other c.self.inside.names.keys c.new.result
          ∙ ap (λ names. list_any (is_name other) names || is_name other c.new.result) c.self.view_is
          ∙ ap (λ name. list_any (is_name other) c.args.self.now || is_name other name) c.new.ensures)
      | in-Err w ↦ rw w.result-is tt
    ]
