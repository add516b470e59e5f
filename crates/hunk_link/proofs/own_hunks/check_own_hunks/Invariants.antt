-- The sites of the hunks so far name hunks of their own unit.
use Rattle.std.proofs.Common.{drop}
use Rattle.hunk_link.specs.OwnHunks.{AllNameOwnHunks, sites_of}
use Rattle.hunk_link.proofs.FirstToBreakLemmas.{IsObeyedBefore}
use Rattle.hunk_link.proofs.own_hunks.check_own_hunks.Given as goal

abbrev pub invariant-loop-ranked : goal.invariant-loop-ranked
invariant-loop-ranked g l = IsObeyedBefore AllNameOwnHunks (sites_of (drop l.ranked-index l.hunks)) (sites_of l.hunks)
