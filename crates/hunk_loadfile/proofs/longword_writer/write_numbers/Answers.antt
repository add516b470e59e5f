-- One more chunk.
use Rattle.std.proofs.Common.{◌≡◌, ◌∙◌, ap, rules, arith}
use Rattle.std.specs.Slice.Iter.{chunks_rest}
use Rattle.hunk_loadfile.proofs.PutsLemmas.{Walked-begun, Walked-chunk}
use Rattle.hunk_loadfile.proofs.longword_writer.write_numbers.Goals as goal

pub loop-chunk-init : goal.loop-chunk-init
loop-chunk-init g c =
    let all : chunks_rest c.into_iter-chunk-iterator.result ≡ c.args.numbers.now = ap chunks_rest c.into_iter-chunk-iterator.ensures.into_iter_gives ∙ c.chunks-chunk-items.ensures.rest in
    record {
      can_next = search rules;
      is_finite = tt;
      size = search rules;
      walked = Walked-begun g.W.Sink.taken g.W.Sink.failed _ c.args.text.now all;
    }

pub loop-chunk-preserved : goal.loop-chunk-preserved
loop-chunk-preserved g c =
    let inv = c.loop-chunk.invariant in
    let steps = c.in-Some.ensures.steps in
    record {
      can_next = omega (arith, steps.0, inv.size);
      is_finite = tt;
      size = steps.0 ∙ inv.size;
      walked = Walked-chunk g.W.Sink.taken g.W.Sink.failed _ c.in-Some.chunk.now inv.walked steps.1.0 (rw c.fill_bytes.ensures at c.put.ensures);
    }
