use Rattle.std.proofs.Common.{◌≡◌, ◌∙◌, ◌+◌, length, ap, sym, subst, rules, arith}
use Rattle.std.proofs.lemmas.List.Sorted.{IsNonDecreasingBy-from_sort_by_key}
use Rattle.hunk_loader.specs.Overlaps.{AreExtents}
use Rattle.hunk_loader.specs.declared.overlaps.Extent.{Extent}
use Rattle.hunk_loader.proofs.OverlapsLemmas.{AreExtents-none, AreExtents-permutation, AreExtents-push, AreExtents-same}
use Rattle.hunk_loader.proofs.overlaps.rising_extents.Goals as goal
use Rattle.hunk_loader.proofs.overlaps.rising_extents.Goals.{in-Some+in_ok-push, in_default}

pub loop-hunk-init : goal.loop-hunk-init
loop-hunk-init g c = subst (AreExtents (g.S.Sizes.sizes c.args.sizes.now) c.args.bases.now 0) (sym c.in_ok-extents.ensures.items) (AreExtents-none (g.S.Sizes.sizes c.args.sizes.now) c.args.bases.now)

pub loop-hunk-preserved : goal.loop-hunk-preserved
loop-hunk-preserved g c =
    let sizes = g.S.Sizes.sizes c.args.sizes.now in
    let bases = c.args.bases.now in
    let hunk = c.loop-hunk.hunk in
    let old = c.loop-hunk.extents.items in
    elim c.match-extent_of.branch [
      | in-Some+in_ok-push w ↦ subst (AreExtents sizes bases (hunk + 1)) (sym (ap (λ v. v.items) w.extents-is ∙ w.in_ok-push.ensures.items))
          (AreExtents-push sizes bases hunk old w.in-Some.extent w.in-Some.ensures c.loop-hunk.invariant)
      | in_default w ↦ subst (AreExtents sizes bases (hunk + 1)) (sym (ap (λ v. v.items) w.extents-is))
          (AreExtents-same sizes bases hunk old w.in_default.ensures c.loop-hunk.invariant)
    ]

pub returns : goal.returns
returns g c =
    let sizes = g.S.Sizes.sizes c.args.sizes.now in
    let bases = c.args.bases.now in
    let all = AreExtents-permutation sizes bases c.loop-hunk.hunk _ _ c.sort_unstable_by_key.ensures.permutation c.loop-hunk.invariant in
    let whole : c.loop-hunk.hunk ≡ length bases = omega (arith, c.loop-hunk-test.false, c.loop-hunk.auto.hunk-end) in
    record {
      all = subst (λ count. AreExtents sizes bases count c.sort_unstable_by_key.new.self.items) whole all;
      rising = IsNonDecreasingBy-from_sort_by_key (λ (extent : Extent). extent.base) _ c.sort_unstable_by_key.ensures.sorted (λ a r q k. search rules);
    }
