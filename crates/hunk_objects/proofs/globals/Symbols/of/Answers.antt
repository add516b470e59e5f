-- One more symbol.
use Rattle.std.proofs.Common.{◌∙◌, ◌||◌, ap, sym}
use Rattle.std.proofs.lemmas.List.{take_all}
use Rattle.hunk_objects.specs.Globals.{Symbol, is_among, is_symbol}
use Rattle.hunk_objects.proofs.GlobalsLemmas.{among-more}
use Rattle.hunk_objects.proofs.globals.Symbols.of.Goals as goal

pub loop-name-preserved : goal.loop-name-preserved
loop-name-preserved g c = λ symbol.
    let it : Symbol = c.loop-name-item.result in
    c.in_ok-add.ensures symbol ∙ ap (λ b. b || is_symbol symbol it) (c.loop-name.invariant symbol)
    ∙ sym (among-more c.args.symbols.now c.loop-name.name-index it symbol c.loop-name-test.true c.loop-name-item.is)

pub returns : goal.returns
returns g c = λ symbol. c.loop-name.invariant symbol ∙ ap (λ symbols. is_among symbols symbol) (take_all _ _ c.loop-name-test.false)
