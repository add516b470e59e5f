-- The names of the units so far were added.
use Rattle.std.proofs.Common.{◌≡◌, take}
use Rattle.std.specs.List.{enumerate_from, flat_map}
use Rattle.hunk_origins.specs.Names.{unit_entries}
use Rattle.hunk_origins.specs.Origins.{origins}
use Rattle.hunk_origins.proofs.names.NameList.of_object_files.Given as goal

abbrev pub invariant-loop-index : goal.invariant-loop-index
invariant-loop-index g l = l.names ≡ flat_map (unit_entries (origins l.files)) (take l.index (enumerate_from 0 l.files))
