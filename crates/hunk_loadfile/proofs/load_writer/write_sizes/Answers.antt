-- One more chunk.
use Rattle.std.proofs.Common.{◌≡◌, ◌≤◌, ◌∙◌, ap, map, subst, sym, rules, arith}
use Rattle.std.proofs.lemmas.List.{map-append}
use Rattle.std.specs.List.{All}
use Rattle.std.specs.Slice.Iter.{chunks_rest}
use Rattle.hunk_loadfile.specs.LoadHunk.{FileHunk}
use Rattle.hunk_loadfile.specs.Rules.{most_size}
use Rattle.hunk_loadfile.specs.WrittenForm.{size_word}
use Rattle.hunk_loadfile.proofs.PutsLemmas.{All-behind, All-front, Walked-begun, Walked-chunk}
use Rattle.hunk_loadfile.proofs.load_writer.write_sizes.Goals as goal

abbrev IsSmall : FileHunk → Type 0
IsSmall h = h.size ≤ most_size

pub loop-chunk-init : goal.loop-chunk-init
loop-chunk-init g c =
    let all : chunks_rest c.into_iter-chunk-iterator.result ≡ c.args.hunks.now = ap chunks_rest c.into_iter-chunk-iterator.ensures.into_iter_gives ∙ c.chunks-chunk-items.ensures.rest in
    record {
      can_next = search rules;
      is_finite = tt;
      size = search rules;
      small = subst (All IsSmall) (sym all) c.requires;
      walked = Walked-begun g.W.Sink.taken g.W.Sink.failed _ c.args.text.now (ap (map size_word) all);
    }

pub fill_sizes-requires-clause-small : goal.fill_sizes-requires-clause-small
fill_sizes-requires-clause-small g c =
    All-front IsSmall c.in-Some.chunk.now (chunks_rest c.next.new.self) (chunks_rest c.loop-chunk.chunk-iterator) c.in-Some.ensures.steps.1.0 c.loop-chunk.invariant.small

pub loop-chunk-preserved : goal.loop-chunk-preserved
loop-chunk-preserved g c =
    let inv = c.loop-chunk.invariant in
    let chunk = c.in-Some.chunk.now in
    let rest = chunks_rest c.next.new.self in
    let steps = c.in-Some.ensures.steps in
    let parts = ap (map size_word) steps.1.0 ∙ map-append size_word chunk rest in
    record {
      can_next = omega (arith, steps.0, inv.size);
      is_finite = tt;
      size = steps.0 ∙ inv.size;
      small = All-behind IsSmall chunk rest (chunks_rest c.loop-chunk.chunk-iterator) steps.1.0 inv.small;
      walked = Walked-chunk g.W.Sink.taken g.W.Sink.failed _ (map size_word chunk) inv.walked parts (rw c.fill_sizes.ensures at c.write_longwords.ensures);
    }
