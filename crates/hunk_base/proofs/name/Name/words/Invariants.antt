use Rattle.std.proofs.Common.{◌≡◌, ◌*◌, ◌≤◌, map, drop, vec_len, vec_capacity}
use Rattle.std.specs.List.{range_with_len}
use Rattle.byteorder.specs.Endian.{big_number}
use Rattle.hunk_base.proofs.name.Name.words.Given as goal

abbrev pub invariant-loop-place : goal.invariant-loop-place
invariant-loop-place g l = record {
  room : l.count ≤ vec_capacity l.words;
  len : vec_len l.words ≡ l.place;
  value : l.words.items ≡ map (λ k. big_number 4 (drop (4 * k) l.bytes)) (range_with_len 0 l.place);
}
