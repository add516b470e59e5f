use Rattle.std.proofs.Common.{ap, ◌∙◌}
use Rattle.hunk_link.specs.SymbolTable.{look_up}
use Rattle.hunk_link.proofs.symbol_table.SymbolTable.get.Goals as goal

pub returns : goal.returns
returns g c =
    c.copied.ensures ∙ c.get.ensures.value ∙ ap (λ table. look_up table c.new.result) c.self.view_is
    ∙ ap (look_up c.args.self.now) (c.new.ensures ∙ c.bytes.ensures.value)
