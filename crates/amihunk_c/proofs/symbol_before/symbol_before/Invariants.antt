-- It is that of the symbols so far.
use Rattle.std.proofs.Common.{option_map, take}
use Rattle.amihunk_c.specs.SymbolBefore.{IsFound}
use Rattle.amihunk_c.proofs.symbol_before.symbol_before.Given as goal

abbrev pub invariant-loop-symbol : goal.invariant-loop-symbol
invariant-loop-symbol l = IsFound (take l.symbol-index l.symbols) l.offset (option_map (λ symbol. symbol.now) l.found)
