use Rattle.std.proofs.Common.{◌+◌, ◌∙◌, ℕ, List, inl, inr, arith, ap, sum_by, sym}
use Rattle.std.proofs.lemmas.List.{take_all}
use Rattle.hunk_objects.specs.UnitHunk.{ObjectHunk}
use Rattle.hunk_link.specs.Limits.{carried_by}
use Rattle.hunk_link.proofs.LimitsLemmas.{room-more, room-passed}
use Rattle.hunk_link.proofs.limits.room_behind_unit.Goals as goal

pub returns-in_err-left : goal.returns-in_err-left
returns-in_err-left g c =
    let hunks = c.hunks-hunk-items in
    let i = c.loop-hunk.hunk-index in
    let hunk = c.hunk-item in
    let size : ObjectHunk → ℕ = λ h. h.size in
    let carried : ObjectHunk → ℕ = carried_by c.args.strip in
    rw c.from_residual.ensures (elim c.in_err-left.ensures [
      | inl long ↦ inl (omega (arith, ap (sum_by size) hunks.ensures.value, room-passed size hunks.result.now i hunk.result _ _ c.loop-hunk-test.true hunk.is c.loop-hunk.invariant.size long))
      | inr long ↦ inr (omega (arith, ap (sum_by carried) hunks.ensures.value, room-passed carried hunks.result.now i hunk.result _ _ c.loop-hunk-test.true hunk.is c.loop-hunk.invariant.carried long))
    ])

pub loop-hunk-preserved : goal.loop-hunk-preserved
loop-hunk-preserved g c =
    let hunks = c.hunks-hunk-items.result.now in
    let i = c.loop-hunk.hunk-index in
    let hunk = c.hunk-item in
    let fits = c.in_ok-left.ensures in
    record {
      size = room-more (λ (h : ObjectHunk). h.size) hunks i hunk.result _ _ _ c.loop-hunk-test.true hunk.is c.loop-hunk.invariant.size fits.0;
      carried = room-more (carried_by c.args.strip) hunks i hunk.result _ _ _ c.loop-hunk-test.true hunk.is c.loop-hunk.invariant.carried fits.1;
    }

pub returns : goal.returns
returns g c =
    let hunks = c.hunks-hunk-items in
    let whole = take_all c.loop-hunk.hunk-index hunks.result.now c.loop-hunk-test.false ∙ hunks.ensures.value in (
      ap (λ (list : List ObjectHunk). c.loop-hunk.left.size + sum_by (λ h. h.size) list) (sym whole) ∙ c.loop-hunk.invariant.size,
      ap (λ (list : List ObjectHunk). c.loop-hunk.left.carried + sum_by (carried_by c.args.strip) list) (sym whole) ∙ c.loop-hunk.invariant.carried,
    )
