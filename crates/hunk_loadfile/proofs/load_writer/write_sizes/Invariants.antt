-- The sizes of the hunks before those of the remaining chunks were put.
use Rattle.std.proofs.Common.{◌≡◌, ◌≤◌, map}
use Rattle.std.specs.List.{All}
use Rattle.std.specs.Slice.Iter.{chunks_rest, chunks_size}
use Rattle.byteorder.specs.Endian.{big_bytes}
use Rattle.hunk_base.proofs.TextLemmas.{Walked}
use Rattle.hunk_loadfile.specs.Rules.{most_size}
use Rattle.hunk_loadfile.specs.WrittenForm.{size_word}
use Rattle.hunk_loadfile.proofs.load_writer.write_sizes.Given as goal

abbrev pub invariant-loop-chunk : goal.invariant-loop-chunk
invariant-loop-chunk g l = record {
  can_next : (goal.iterator-loop-chunk g).can_next l.chunk-iterator;
  is_finite : (goal.iterator-loop-chunk g).is_finite l.chunk-iterator;
  size : chunks_size l.chunk-iterator ≡ 64;
  small : All (λ h. h.size ≤ most_size) (chunks_rest l.chunk-iterator);
  walked : Walked g.W.Sink.taken g.W.Sink.failed (λ n. big_bytes 4 n) l.fn.text l.text (map size_word (chunks_rest l.chunk-iterator)) (map size_word l.hunks);
}
