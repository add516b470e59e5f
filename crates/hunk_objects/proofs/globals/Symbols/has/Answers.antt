use Rattle.std.proofs.Common.{◌∙◌, ap}
use Rattle.hunk_objects.specs.Globals.{Symbol, is_among, is_symbol}
use Rattle.hunk_objects.proofs.GlobalsLemmas.{list_any-shown}
use Rattle.hunk_objects.proofs.globals.Symbols.has.Goals as goal

pub returns : goal.returns
returns g c =
    let symbol : Symbol = (c.args.name.now, c.args.value) in
    c.contains.ensures ∙ list_any-shown (is_symbol symbol) c.self.inside.symbols.keys ∙ ap (λ symbols. is_among symbols symbol) c.self.view_is
