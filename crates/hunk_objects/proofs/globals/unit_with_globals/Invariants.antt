-- The hunks so far are made, and there is room for the others.
use Rattle.std.proofs.Common.{◌≡◌, ◌≤◌, ◌++◌, length, map, vec_capacity}
use Rattle.std.specs.List.{All}
use Rattle.hunk_objects.specs.Globals.{hunk_with_globals}
use Rattle.hunk_objects.specs.UnitHunk.{IsUnitHunk}
use Rattle.hunk_objects.proofs.globals.unit_with_globals.Given as goal

abbrev pub invariant-loop-hunk : goal.invariant-loop-hunk
invariant-loop-hunk g l = record {
  can_next : (goal.iterator-loop-hunk g).can_next l.hunk-iterator;
  is_finite : (goal.iterator-loop-hunk g).is_finite l.hunk-iterator;
  room : length l.fn.unit.hunks ≤ vec_capacity l.made;
  value : l.made.items ++ map (hunk_with_globals l.strip) l.hunk-iterator.rest.items ≡ map (hunk_with_globals l.strip) l.fn.unit.hunks;
  valid : All IsUnitHunk l.made.items;
}
