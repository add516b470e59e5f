-- The symbols so far.
use Rattle.std.proofs.Common.{◌≡◌, take}
use Rattle.hunk_objects.specs.Globals.{Symbol, is_among}
use Rattle.hunk_objects.proofs.globals.Symbols.of.Given as goal

abbrev pub invariant-loop-name : goal.invariant-loop-name
invariant-loop-name g l = (symbol : Symbol) → is_among l.made symbol ≡ is_among (take l.name-index l.symbols) symbol
