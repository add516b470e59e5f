-- What is left, and what the debug blocks so far take.
use Rattle.std.proofs.Common.{◌≡◌, ◌+◌, sum_by, take}
use Rattle.std.specs.List.{All}
use Rattle.hunk_loadfile.specs.Rules.{IsLongword, debug_longwords}
use Rattle.hunk_loadfile.proofs.rules.room_behind_debugs.Given as goal

abbrev pub invariant-loop-debug : goal.invariant-loop-debug
invariant-loop-debug g l = record {
  room : l.left + sum_by (λ debug. debug_longwords debug.items) (take l.debug-index l.debugs) ≡ l.fn.room;
  typed : All (λ debug. All IsLongword debug.items) (take l.debug-index l.debugs);
}
