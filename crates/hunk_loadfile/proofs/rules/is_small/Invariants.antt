-- The sizes so far, and the room left for the symbols and debug blocks.
use Rattle.std.proofs.Common.{◌≡◌, ◌≤◌, ◌+◌, ◌*◌, ◌^◌, take}
use Rattle.std.specs.List.{All}
use Rattle.hunk_loadfile.specs.Rules.{IsTyped, size_of, carried_longwords, most_carried}
use Rattle.hunk_loadfile.proofs.rules.is_small.Given as goal

abbrev pub invariant-loop-hunk : goal.invariant-loop-hunk
invariant-loop-hunk g l = record {
  bounded : l.size ≤ l.hunk-index * 2 ^ 32;
  sized : l.size ≡ size_of (take l.hunk-index l.hunks);
  room : l.room + carried_longwords (take l.hunk-index l.hunks) ≡ most_carried;
  typed : All IsTyped (take l.hunk-index l.hunks);
}
