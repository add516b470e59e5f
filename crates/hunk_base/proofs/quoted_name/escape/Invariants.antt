-- The bytes so far stand escaped in the block, which has room for the others.
use Rattle.std.proofs.Common.{◌≡◌, ◌≤◌, ◌*◌, length, take}
use Rattle.hunk_base.specs.QuotedName.{escaped_all}
use Rattle.hunk_base.proofs.quoted_name.escape.Given as goal

abbrev pub invariant-loop-byte : goal.invariant-loop-byte
invariant-loop-byte l = record {
  room : length l.block.items ≤ 4 * l.byte-index;
  escaped : l.block.items ≡ escaped_all (take l.byte-index l.bytes);
}
