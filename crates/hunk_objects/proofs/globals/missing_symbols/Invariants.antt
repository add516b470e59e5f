-- The symbols of the definitions so far.
use Rattle.std.proofs.Common.{◌≡◌, ◌≤◌, length, take}
use Rattle.std.specs.List.{All}
use Rattle.hunk_base.specs.Name.{most_name}
use Rattle.hunk_objects.specs.Globals.{Symbol, global_symbols, others}
use Rattle.hunk_objects.proofs.globals.missing_symbols.Given as goal

abbrev pub invariant-loop-name : goal.invariant-loop-name
invariant-loop-name g l = record {
  value : l.more.items ≡ others l.hunk.symbols (global_symbols (take l.name-index l.name-items));
  short : All (λ (symbol : Symbol). length symbol.0 ≤ most_name) l.more.items;
}
