use Rattle.std.proofs.Common.{◌∙◌, ap}
use Rattle.std.specs.List.{list_any}
use Rattle.hunk_origins.specs.DefinedNames.{is_name}
use Rattle.hunk_origins.proofs.defined_names.DefinedNames.has.Goals as goal

pub returns : goal.returns
returns g c =
    c.contains.ensures ∙ ap (λ name. list_any (is_name name) c.self.inside.names.keys) c.new.ensures ∙ ap (list_any (is_name c.args.name.now)) c.self.view_is
