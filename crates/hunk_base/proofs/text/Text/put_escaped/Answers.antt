-- One more chunk.
use Rattle.std.proofs.Common.{[], ◌∙◌, ◌++◌, ap, append_assoc, subst, sym, rules, arith}
use Rattle.std.specs.Slice.Iter.{chunks_rest}
use Rattle.hunk_base.specs.Text.{Puts}
use Rattle.hunk_base.proofs.QuotedNameLemmas.{escaped_all-append}
use Rattle.hunk_base.proofs.TextLemmas.{Puts-nothing, Puts-then}
use Rattle.hunk_base.proofs.text.Text.put_escaped.Goals as goal

pub loop-chunk-init : goal.loop-chunk-init
loop-chunk-init g c = record {
  can_next = search rules;
  is_finite = tt;
  size = search rules;
  front = [];
  whole = search rules;
  puts = Puts-nothing g.W.Sink.taken g.W.Sink.failed c.args.self.now;
}

pub loop-chunk-preserved : goal.loop-chunk-preserved
loop-chunk-preserved g c =
    let inv = c.loop-chunk.invariant in
    let chunk = c.in-Some.chunk.now in
    let steps = c.in-Some.ensures.steps in
    record {
      can_next = omega (arith, steps.0, inv.size);
      is_finite = tt;
      size = steps.0 ∙ inv.size;
      front = inv.front ++ chunk;
      whole = append_assoc inv.front chunk (chunks_rest c.next.new.self) ∙ ap (λ rest. inv.front ++ rest) (sym steps.1.0) ∙ inv.whole;
      puts =
          subst (λ text. Puts g.W.Sink.taken g.W.Sink.failed c.args.self.now c.put.new.self text) (sym (escaped_all-append inv.front chunk))
          (Puts-then g.W.Sink.taken g.W.Sink.failed inv.puts (rw (c.as_slice.ensures.value, c.escape.ensures) at c.put.ensures));
    }
