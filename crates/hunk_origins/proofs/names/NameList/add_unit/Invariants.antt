-- The names of the hunks so far were added.
use Rattle.std.proofs.Common.{◌≡◌, ◌++◌, List, Some, take}
use Rattle.std.specs.List.{flat_map}
use Rattle.hunk_origins.specs.DefinedNames.{AreDefinedBy}
use Rattle.hunk_origins.specs.Names.{hunk_entries}
use Rattle.hunk_origins.specs.Origins.{Origin, origins_from}
use Rattle.hunk_origins.proofs.names.NameList.add_unit.Given as goal

abbrev pub invariant-loop-number : goal.invariant-loop-number
invariant-loop-number g l = (all : List Origin) → AreDefinedBy all l.defined
    → l.self ≡ l.fn.self ++ flat_map (hunk_entries all (Some l.index)) (take l.number (origins_from (l.place, l.unit) 0 l.hunk-items))
