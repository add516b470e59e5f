use Rattle.std.proofs.Common.{◌-◌, ◌<◌, ◌≤◌}
use Rattle.hunk_loader.specs.Overlaps.{AreInOrderBelow}
use Rattle.hunk_loader.proofs.overlaps.first_out_of_order.Given as goal

abbrev pub invariant-loop-low : goal.invariant-loop-low
invariant-loop-low l = record {
  apart : l.low < l.high;
  within : l.high ≤ l.hunks;
  before : AreInOrderBelow l.extents l.low;
  with : ¬ AreInOrderBelow l.extents l.high;
}

abbrev pub decreases-loop-low : goal.decreases-loop-low
decreases-loop-low l = l.high - l.low
