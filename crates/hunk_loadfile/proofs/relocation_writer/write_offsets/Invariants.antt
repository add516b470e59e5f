-- The offsets of the sites before those of the remaining chunks were put.
use Rattle.std.proofs.Common.{◌≡◌, ℕ, map}
use Rattle.std.specs.Slice.Iter.{chunks_rest, chunks_size}
use Rattle.byteorder.specs.Endian.{big_bytes}
use Rattle.hunk_base.proofs.TextLemmas.{Walked}
use Rattle.hunk_loadfile.specs.NumberWidth.{width_bytes}
use Rattle.hunk_loadfile.proofs.relocation_writer.write_offsets.Given as goal

abbrev pub invariant-loop-chunk : goal.invariant-loop-chunk
invariant-loop-chunk g l = record {
  can_next : (goal.iterator-loop-chunk g).can_next l.chunk-iterator;
  is_finite : (goal.iterator-loop-chunk g).is_finite l.chunk-iterator;
  size : chunks_size l.chunk-iterator ≡ 256;
  walked : Walked g.W.Sink.taken g.W.Sink.failed (λ n. big_bytes (width_bytes l.width) n) l.fn.text l.text (map (λ (pair : ℕ × ℕ). pair.0) (chunks_rest l.chunk-iterator)) (map (λ (pair : ℕ × ℕ). pair.0) l.group);
}
