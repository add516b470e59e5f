-- The hunks so far, followed by the remaining ones, are all hunks.
use Rattle.std.proofs.Common.{◌≡◌, ◌+◌, ◌++◌, drop}
use Rattle.hunk_origins.specs.Origins.{origins, origins_from}
use Rattle.hunk_origins.proofs.origins.origins.Given as goal

abbrev pub invariant-loop-index : goal.invariant-loop-index
invariant-loop-index g l = l.all.items ++ origins (drop l.index l.files) ≡ origins l.files

abbrev pub invariant-loop-number : goal.invariant-loop-number
invariant-loop-number g l =
    l.all.items ++ (origins_from (l.place, l.unit) l.number (drop l.number l.hunk-items) ++ origins (drop (l.index + 1) l.files)) ≡ origins l.files
