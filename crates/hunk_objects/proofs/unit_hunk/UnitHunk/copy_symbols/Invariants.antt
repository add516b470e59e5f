-- The symbols so far are copied, and there is room for the others.
use Rattle.std.proofs.Common.{◌≡◌, ◌≤◌, length, take, vec_len, vec_capacity}
use Rattle.hunk_objects.proofs.unit_hunk.UnitHunk.copy_symbols.Given as goal

abbrev pub invariant-loop-name : goal.invariant-loop-name
invariant-loop-name g l = record {
  room : length l.name-items ≤ vec_capacity l.symbols;
  len : vec_len l.symbols ≡ l.name-index;
  value : l.symbols.items ≡ take l.name-index l.name-items;
}
