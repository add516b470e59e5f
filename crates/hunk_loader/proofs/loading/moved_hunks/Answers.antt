use Rattle.std.proofs.Common.{◌++◌, ℕ, List, [], ◌∷◌, length, drop, slice_index, vec_len, sym, ap, subst, ◌∙◌, arith}
use Rattle.std.proofs.lemmas.List.Elements.{All-head, All-tail}
use Rattle.std.specs.List.{All}
use Rattle.hunk_loadfile.specs.LoadHunk.{FileHunk}
use Rattle.hunk_loadfile.specs.Rules.{IsLoadHunk}
use Rattle.hunk_loader.specs.Image.{hunks_of}
use Rattle.hunk_loader.specs.Loading.{loaded}
use Rattle.hunk_loader.proofs.LoadingLemmas.{loaded_from, loaded_from-more, loaded_from-none}
use Rattle.hunk_loader.proofs.loading.moved_hunks.Goals as goal

pub moved_bytes-requires : goal.moved_bytes-requires
moved_bytes-requires g c =
    let bases : List ℕ = c.args.bases.now in
    All-head (IsLoadHunk (length bases)) c.in-Some.hunk c.next.new.self.rest.items (subst (All (IsLoadHunk (length bases))) c.in-Some.ensures.steps.0 c.loop-hunk.invariant.valid)

pub loop-hunk-preserved : goal.loop-hunk-preserved
loop-hunk-preserved g c =
    let bases : List ℕ = c.args.bases.now in
    let rest : List FileHunk = c.next.new.self.rest.items in
    let made = c.loop-hunk.made in
    let base : ℕ = slice_index bases c.len-in-loop-hunk.result in
    let shown = c.in-Some.ensures.steps.0 in
    let more = loaded_from-more bases (loaded c.args.hunks.items bases) c.loop-hunk.hunk-iterator.rest.items rest made.items base c.in-Some.hunk c.in_ok-bytes.bytes (vec_len made)
    (omega (arith, c.loop-hunk.invariant.left, ap length shown)) (ap (slice_index bases) (sym c.len-in-loop-hunk.ensures)) shown c.in_ok-bytes.ensures c.loop-hunk.invariant.value in
    record {
      can_next = tt;
      is_finite = tt;
      room = omega (arith, c.push_reserved.ensures.capacity);
      left = omega (arith, c.loop-hunk.invariant.left, c.push_reserved.ensures.len, ap length shown);
      valid = All-tail (IsLoadHunk (length bases)) c.in-Some.hunk rest (subst (All (IsLoadHunk (length bases))) shown c.loop-hunk.invariant.valid);
      value = ap (λ items. hunks_of items ++ loaded_from bases (drop (vec_len c.push_reserved.new.self) bases) rest) c.push_reserved.ensures.items
          ∙ ap (λ count. hunks_of (made.items ++ (base, c.in_ok-bytes.bytes) ∷ []) ++ loaded_from bases (drop count bases) rest) c.push_reserved.ensures.len
          ∙ more;
    }

pub returns : goal.returns
returns g c =
    loaded_from-none c.args.bases.now (loaded c.args.hunks.items c.args.bases.now) c.loop-hunk.hunk-iterator.rest.items c.loop-hunk.made.items (vec_len c.loop-hunk.made)
    (omega (arith, c.loop-hunk.invariant.left, c.loop-hunk.hunk-iterator.rest.ok.0, c.in-None.ensures.steps.0)) c.loop-hunk.invariant.value

pub loop-hunk-init : goal.loop-hunk-init
loop-hunk-init g c =
    let bases : List ℕ = c.args.bases.now in
    let rest : List FileHunk = c.into_iter-hunk-iterator.result.rest.items in
    let made = c.in_ok-made.made in
    let begun = c.in_ok-made.ensures in
    let all = c.into_iter-hunk-iterator.ensures.into_iter_gives.0 in
    record {
      can_next = tt;
      is_finite = tt;
      room = omega (arith, begun.capacity, c.len.ensures, c.requires.counted);
      left = omega (arith, begun.len, ap length all, c.requires.counted);
      valid = subst (All (IsLoadHunk (length bases))) (sym all) c.requires.valid;
      value = ap (λ items. hunks_of items ++ loaded_from bases (drop (vec_len made) bases) rest) begun.items
          ∙ ap (λ count. loaded_from bases (drop count bases) rest) begun.len
          ∙ ap (λ (hunks : List FileHunk). loaded_from bases bases hunks) all;
    }
