use Rattle.std.proofs.Common.{◌≡◌, map, take}
use Rattle.hunk_origins.specs.UndefinedName.{undefined_name}
use Rattle.hunk_origins.proofs.undefined_name.told_of.Given as goal

abbrev pub invariant-loop-index : goal.invariant-loop-index
invariant-loop-index g l = l.names.items ≡ map undefined_name (take l.index l.uses)
