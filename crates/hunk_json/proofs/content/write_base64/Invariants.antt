-- The symbols of the pieces so far were put, and those of the remaining pieces are the rest.
use Rattle.std.proofs.Common.{◌≡◌, List, ◌++◌, ℕ}
use Rattle.std.specs.Slice.Iter.{chunks_rest, chunks_size}
use Rattle.base64.specs.Engines.{standard}
use Rattle.base64.specs.GeneralPurpose.{encode_of}
use Rattle.hunk_base.specs.Text.{Puts}
use Rattle.hunk_json.proofs.content.write_base64.Given as goal

abbrev pub invariant-loop-piece : goal.invariant-loop-piece
invariant-loop-piece g l = record {
  can_next : (goal.iterator-loop-piece g).can_next l.piece-iterator;
  is_finite : (goal.iterator-loop-piece g).is_finite l.piece-iterator;
  size : chunks_size l.piece-iterator ≡ 192;
  done : List ℕ;
  whole : done ++ encode_of standard (chunks_rest l.piece-iterator) ≡ encode_of standard l.bytes;
  puts : Puts g.W.Sink.taken g.W.Sink.failed l.fn.text l.text done;
}
