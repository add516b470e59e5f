-- The symbols of the hunks so far were added.
use Rattle.std.proofs.Common.{◌≡◌, take}
use Rattle.std.specs.List.{enumerate_from, flat_map}
use Rattle.hunk_origins.specs.Names.{load_entries}
use Rattle.hunk_origins.proofs.names.NameList.of_load_file.Given as goal

abbrev pub invariant-loop-number : goal.invariant-loop-number
invariant-loop-number g l = l.names ≡ flat_map load_entries (take l.number (enumerate_from 0 l.hunk-items))
