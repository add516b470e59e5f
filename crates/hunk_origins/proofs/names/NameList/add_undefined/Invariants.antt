-- The names so far were added.
use Rattle.std.proofs.Common.{◌≡◌, ◌++◌, Some, map, take}
use Rattle.hunk_origins.specs.Names.{undefined_entry}
use Rattle.hunk_origins.proofs.names.NameList.add_undefined.Given as goal

abbrev pub invariant-loop-index : goal.invariant-loop-index
invariant-loop-index g l =
    l.self-inside.entries.items ≡ l.fn.self ++ map (undefined_entry (Some l.unit) l.origin.number) (take l.index l.uses-inside.entries.entries)
