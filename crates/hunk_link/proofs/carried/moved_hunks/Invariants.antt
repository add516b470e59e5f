-- The hunks that are left are made of the remaining ones, unit by unit, and there is room for them.
use Rattle.std.proofs.Common.{◌≤◌, vec_capacity}
use Rattle.hunk_link.specs.Ranks.{hunks_of}
use Rattle.hunk_link.proofs.CarriedHunksLemmas.{BetweenUnits, InUnit}
use Rattle.hunk_link.proofs.carried.moved_hunks.Given as goal

abbrev pub invariant-loop-unit : goal.invariant-loop-unit
invariant-loop-unit g l = record {
  can_next : (goal.iterator-loop-unit g).can_next l.unit-iterator;
  is_finite : (goal.iterator-loop-unit g).is_finite l.unit-iterator;
  room : l.total ≤ vec_capacity l.carried;
  making : BetweenUnits l.addends l.strip (hunks_of l.fn.units.items) l.unit-iterator.rest.items l.next l.carried.items;
}

abbrev pub invariant-loop-hunk : goal.invariant-loop-hunk
invariant-loop-hunk g l = record {
  can_next : (goal.iterator-loop-hunk g).can_next l.hunk-iterator;
  is_finite : (goal.iterator-loop-hunk g).is_finite l.hunk-iterator;
  room : l.total ≤ vec_capacity l.carried;
  making : InUnit l.addends l.strip (hunks_of l.fn.units.items) l.first l.hunk-iterator.rest.items l.unit-iterator.rest.items l.next l.carried.items;
}
