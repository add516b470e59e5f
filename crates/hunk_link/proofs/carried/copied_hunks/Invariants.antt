-- The hunks that are left are made of the remaining ones, for which there is room.
use Rattle.std.proofs.Common.{◌≤◌, drop, length, vec_capacity}
use Rattle.hunk_link.proofs.CarriedHunksLemmas.{Making}
use Rattle.hunk_link.proofs.carried.copied_hunks.Given as goal

abbrev pub invariant-loop-ranked : goal.invariant-loop-ranked
invariant-loop-ranked g l = record {
  room : length l.hunks ≤ vec_capacity l.carried;
  making : Making l.addends l.strip l.hunks (drop l.ranked-index l.hunks) l.next l.carried.items;
}
