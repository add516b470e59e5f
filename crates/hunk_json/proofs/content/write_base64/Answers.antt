-- One more piece.
use Rattle.std.proofs.Common.{◌≡◌, ◌∙◌, ◌++◌, [], ap, append_assoc, append-nil, arith, length, min, sym}
use Rattle.std.specs.Slice.Iter.{chunks_rest, chunks_size}
use Rattle.std.proofs.lemmas.List.{nil_from_length}
use Rattle.base64.specs.Engines.{standard}
use Rattle.base64.specs.GeneralPurpose.{encode_of}
use Rattle.base64.proofs.EngineFacts.{encode_of-nil}
use Rattle.hunk_base.proofs.TextLemmas.{◌⨾◌, Puts-as, Puts-nothing}
use Rattle.hunk_json.proofs.ContentLemmas.{encoded-piece}
use Rattle.hunk_json.proofs.content.write_base64.Goals as goal

pub loop-piece-init : goal.loop-piece-init
loop-piece-init g c =
    let first = c.into_iter-piece-iterator.ensures.into_iter_gives in
    let size = ap chunks_size first ∙ c.chunks-piece-items.ensures.size in
    record {
      can_next = omega (arith, size);
      is_finite = tt;
      size = size;
      done = [];
      whole = ap (λ iterator. encode_of standard (chunks_rest iterator)) first ∙ ap (encode_of standard) c.chunks-piece-items.ensures.rest;
      puts = Puts-nothing g.W.Sink.taken g.W.Sink.failed c.args.text.now;
    }

pub write_piece-requires : goal.write_piece-requires
write_piece-requires g c = omega (arith, c.in-Some.ensures.steps.1.1, c.loop-piece.invariant.size)

pub loop-piece-preserved : goal.loop-piece-preserved
loop-piece-preserved g c =
    let inv = c.loop-piece.invariant in
    let piece = c.in-Some.piece.now in
    let steps = c.in-Some.ensures.steps in
    let left = chunks_rest c.loop-piece.piece-iterator in
    let rest = chunks_rest c.next.new.self in
    let short : length piece ≡ min 192 (length left) = omega (arith, steps.1.1, inv.size) in
    let encoded = encoded-piece piece rest left steps.1.0 short in
    record {
      can_next = omega (arith, steps.0, inv.size);
      is_finite = tt;
      size = steps.0 ∙ inv.size;
      done = inv.done ++ encode_of standard piece;
      whole = append_assoc inv.done (encode_of standard piece) (encode_of standard rest) ∙ ap (λ end. inv.done ++ end) (sym encoded) ∙ inv.whole;
      puts = inv.puts ⨾ c.write_piece.ensures;
    }

pub returns : goal.returns
returns g c =
    let inv = c.loop-piece.invariant in
    let none = nil_from_length (chunks_rest c.loop-piece.piece-iterator) c.in-None.ensures.steps.1.0 in
    Puts-as (sym (append-nil inv.done) ∙ ap (λ end. inv.done ++ end) (sym (encode_of-nil standard) ∙ ap (encode_of standard) (sym none)) ∙ inv.whole) inv.puts
