-- The total is that of the bytes so far.
use Rattle.std.proofs.Common.{◌≡◌, ◌%◌, sum, take}
use Rattle.hunk_image_text.proofs.record.checksum.Given as goal

abbrev pub invariant-loop-byte : goal.invariant-loop-byte
invariant-loop-byte l = l.total ≡ sum (take l.byte-index l.bytes) % 256
