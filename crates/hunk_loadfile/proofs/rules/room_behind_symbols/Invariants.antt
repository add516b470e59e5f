-- What is left, and what the symbols so far take.
use Rattle.std.proofs.Common.{◌≡◌, ◌+◌, sum_by, take}
use Rattle.std.specs.List.{All}
use Rattle.hunk_loadfile.specs.Rules.{IsTypedSymbol, symbol_longwords}
use Rattle.hunk_loadfile.proofs.rules.room_behind_symbols.Given as goal

abbrev pub invariant-loop-symbol : goal.invariant-loop-symbol
invariant-loop-symbol g l = record {
  room : l.left + sum_by symbol_longwords (take l.symbol-index l.symbols) ≡ l.fn.room;
  typed : All IsTypedSymbol (take l.symbol-index l.symbols);
}
