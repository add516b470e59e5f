-- The blocks so far are copied, and there is room for the others.
use Rattle.std.proofs.Common.{◌≡◌, ◌≤◌, length, take, vec_len, vec_capacity}
use Rattle.hunk_words.specs.DebugInfo.{lists_of}
use Rattle.hunk_objects.proofs.unit_hunk.UnitHunk.copy_debugs.Given as goal

abbrev pub invariant-loop-words : goal.invariant-loop-words
invariant-loop-words g l = record {
  room : length l.words-items ≤ vec_capacity l.debugs;
  len : vec_len l.debugs ≡ l.words-index;
  value : lists_of l.debugs.items ≡ take l.words-index (lists_of l.words-items);
}
