-- The bytes of the chunks so far were put, and the remaining chunks are the rest.
use Rattle.std.proofs.Common.{◌≡◌, List, ◌++◌, ℕ}
use Rattle.std.specs.Slice.Iter.{chunks_rest, chunks_size}
use Rattle.hunk_base.specs.QuotedName.{escaped_all}
use Rattle.hunk_base.specs.Text.{Puts}
use Rattle.hunk_base.proofs.text.Text.put_escaped.Given as goal

abbrev pub invariant-loop-chunk : goal.invariant-loop-chunk
invariant-loop-chunk g l = record {
  can_next : (goal.iterator-loop-chunk g).can_next l.chunk-iterator;
  is_finite : (goal.iterator-loop-chunk g).is_finite l.chunk-iterator;
  size : chunks_size l.chunk-iterator ≡ 64;
  front : List ℕ;
  whole : front ++ chunks_rest l.chunk-iterator ≡ l.name;
  puts : Puts g.W.Sink.taken g.W.Sink.failed l.fn.self l.self (escaped_all front);
}
