-- The count stays among the sites, and in the second loop no site from it on begins before the offset.
use Rattle.std.proofs.Common.{ℕ, ◌-◌, ◌<◌, ◌≤◌, length, get_or}
use Rattle.hunk_base.proofs.list.count_below.Given as goal

abbrev pub invariant-loop-count : goal.invariant-loop-count
invariant-loop-count g l = l.count ≤ length l.sites

abbrev pub decreases-loop-count : goal.decreases-loop-count
decreases-loop-count g l = length l.sites - l.count

abbrev pub invariant-loop-count-2 : goal.invariant-loop-count-2
invariant-loop-count-2 g l = record {
  inside : l.count ≤ length l.sites;
  after : (k : ℕ) (d : ℕ × g.row.T.Denot) → l.count ≤ k → k < length l.sites → l.offset ≤ (get_or l.sites k d).0;
}

abbrev pub decreases-loop-count-2 : goal.decreases-loop-count-2
decreases-loop-count-2 g l = l.count
