-- The symbols so far were added.
use Rattle.std.proofs.Common.{◌≡◌, ◌++◌, map, take}
use Rattle.hunk_origins.specs.Names.{symbol_entry}
use Rattle.hunk_origins.proofs.names.NameList.add_symbols.Given as goal

abbrev pub invariant-loop-name : goal.invariant-loop-name
invariant-loop-name g l = l.self-inside.entries.items ≡ l.fn.self ++ map (symbol_entry l.unit l.hunk l.kind) (take l.name-index l.symbols)
