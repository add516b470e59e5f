use Rattle.std.proofs.Common.{◌≡◌, ℕ, ◌<◌, length, slice_index, sym, ap, subst, ◌∙◌, arith}
use Rattle.std.proofs.lemmas.List.Elements.{All-head}
use Rattle.std.specs.List.{All}
use Rattle.hunk_base.specs.Sites.{StandFrom}
use Rattle.hunk_loadfile.specs.Patching.{patched_bytes}
use Rattle.hunk_loadfile.proofs.PatchingLemmas.{All-behind, StandFrom-wider, left-apart, left-patched, all-patched}
use Rattle.hunk_loadfile.proofs.patching.patch.Goals as goal

pub loop-offset-init : goal.loop-offset-init
loop-offset-init g c =
    let bytes = c.args.bytes.now in
    let bases = c.args.bases.now in
    let all : c.into_iter-offset-iterator.result ≡ c.args.sites.now.entries = c.into_iter-offset-iterator.ensures.into_iter_gives ∙ c.walk-offset-items.ensures.rest in
    let apart = StandFrom-wider 0 0 c.args.sites.now.limit (length bytes) c.args.sites.now.entries (omega arith) c.requires.inside c.walk-offset-items.ensures.apart in
    record {
      can_next = tt;
      is_finite = tt;
      apart = subst (StandFrom 0 (length bytes)) (sym all) apart;
      based = subst (All (λ site. site.1 < length bases)) (sym all) c.requires.based;
      rest = ap (λ sites. patched_bytes (length bytes) bytes sites (slice_index bases)) all;
    }

pub loop-offset-preserved : goal.loop-offset-preserved
loop-offset-preserved g c =
    let bytes = c.args.bytes.now in
    let bases = c.args.bases.now in
    let left = c.loop-offset.offset-iterator in
    let kept = c.loop-offset.invariant in
    let site : ℕ × ℕ = (c.in-Some.offset, c.in-Some.target.now) in
    record {
      can_next = tt;
      is_finite = tt;
      apart = left-apart bases c.loop-offset.bytes c.add_at.new.bytes left c.next.new.self site c.in-Some.ensures.steps kept.apart c.add_at.ensures;
      based = All-behind (λ s. s.1 < length bases) left c.next.new.self site c.in-Some.ensures.steps kept.based;
      rest = left-patched bases c.loop-offset.bytes c.add_at.new.bytes left c.next.new.self site c.in-Some.ensures.steps kept.apart c.add_at.ensures (length bytes) (patched_bytes (length bytes) bytes c.args.sites.now.entries (slice_index bases)) kept.rest;
    }

pub returns : goal.returns
returns g c =
    let bytes = c.args.bytes.now in
    let bases = c.args.bases.now in
    let kept = c.loop-offset.invariant in
    all-patched bases bytes c.loop-offset.bytes c.loop-offset.offset-iterator (patched_bytes (length bytes) bytes c.args.sites.now.entries (slice_index bases)) c.loop-offset.auto.bytes c.in-None.ensures.steps.0 kept.rest

pub bounds-bases-target : goal.bounds-bases-target
bounds-bases-target g c =
    let based : ℕ × ℕ → Type 0 = λ site. site.1 < length c.args.bases.now in
    All-head based (c.in-Some.offset, c.in-Some.target.now) c.next.new.self (subst (All based) c.in-Some.ensures.steps c.loop-offset.invariant.based)
