-- The units so far are made, and there is room for the others.
use Rattle.std.proofs.Common.{◌≡◌, ◌≤◌, ◌++◌, length, map, vec_capacity}
use Rattle.hunk_objects.specs.Globals.{unit_with_globals}
use Rattle.hunk_objects.proofs.globals.with_globals.Given as goal

abbrev pub invariant-loop-unit : goal.invariant-loop-unit
invariant-loop-unit g l = record {
  can_next : (goal.iterator-loop-unit g).can_next l.unit-iterator;
  is_finite : (goal.iterator-loop-unit g).is_finite l.unit-iterator;
  room : length l.fn.units.items ≤ vec_capacity l.made;
  value : l.made.items ++ map (unit_with_globals l.strip) l.unit-iterator.rest.items ≡ map (unit_with_globals l.strip) l.fn.units.items;
}
