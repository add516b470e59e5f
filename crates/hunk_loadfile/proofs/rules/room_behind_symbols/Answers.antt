use Rattle.std.proofs.Common.{◌≡◌, arith, get_or, subst, sym}
use Rattle.std.proofs.lemmas.Grind.{common_steps}
use Rattle.std.proofs.lemmas.List.Elements.{All-more}
use Rattle.std.proofs.lemmas.List.Sums.{sum_by_more}
use Rattle.hunk_loadfile.specs.Rules.{IsTypedSymbol, symbol_longwords}
use Rattle.hunk_loadfile.proofs.rules.room_behind_symbols.Goals as goal

pub loop-symbol-preserved : goal.loop-symbol-preserved
loop-symbol-preserved g c =
    let xs = c.args.symbols.now in
    let i = c.loop-symbol.symbol-index in
    let x = c.symbol-item.result in
    let more = sum_by_more symbol_longwords xs i x c.loop-symbol-test.true in
    let here : symbol_longwords (get_or xs i x) ≡ c.symbol_longwords-count.result = rw (← c.symbol-item.is) (sym c.symbol_longwords-count.ensures.count) in
    record {
      room = omega (arith, more, here, c.loop-symbol.invariant.room);
      typed = All-more IsTypedSymbol xs i x c.loop-symbol-test.true c.loop-symbol.invariant.typed (subst IsTypedSymbol c.symbol-item.is c.symbol_longwords-count.ensures.typed);
    }

-- `grind` at once: `search`, which Rattle tries before it, is slow here
pub returns-then-left-count-clause-room : goal.returns-then-left-count-clause-room
returns-then-left-count-clause-room g c = grind (arith, common_steps)

pub returns-clause-room : goal.returns-clause-room
returns-clause-room g c = grind (arith, common_steps)

pub returns-clause-typed : goal.returns-clause-typed
returns-clause-typed g c = grind (arith, common_steps)
