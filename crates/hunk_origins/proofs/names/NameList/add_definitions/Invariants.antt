-- The definitions so far were added.
use Rattle.std.proofs.Common.{◌≡◌, ◌++◌, Some, map, take}
use Rattle.hunk_origins.specs.Names.{definition_entry}
use Rattle.hunk_origins.proofs.names.NameList.add_definitions.Given as goal

abbrev pub invariant-loop-name : goal.invariant-loop-name
invariant-loop-name g l = l.self-inside.entries.items ≡ l.fn.self ++ map (definition_entry (Some l.unit) l.hunk l.kind) (take l.name-index l.definitions)
