use Rattle.std.proofs.Common.{◌∙◌, ◌||◌, ap, map}
use Rattle.hunk_objects.specs.Globals.{is_among, is_symbol}
use Rattle.hunk_objects.proofs.GlobalsLemmas.{among-inserted, shown}
use Rattle.hunk_objects.proofs.globals.Symbols.add.Goals as goal
use Rattle.hunk_objects.proofs.globals.Symbols.add.Goals.{in-Ok, in-Err}

pub returns : goal.returns
returns g c =
    elim c.match-insert.branch [
      | in-Ok w ↦ rw w.result-is (λ symbol.
          ap (λ keys. is_among (map shown keys) symbol) w.in-Ok.ensures.keys
          ∙ among-inserted c.self.inside.symbols.keys (c.args.name, c.args.value) symbol
          ∙ ap (λ symbols. is_among symbols symbol || is_symbol symbol (c.args.name.now, c.args.value)) c.self.view_is)
      | in-Err w ↦ rw w.result-is tt
    ]
