use Rattle.std.proofs.Common.{◌≡◌, ◌+◌, ◌-◌, ◌<◌, ℕ, List, ◌∷◌, drop, length, get_or, sym, ap, ◌∙◌, arith}
use Rattle.std.proofs.lemmas.List.{drop_all, drop_more}
use Rattle.hunk_link.specs.Ranks.{RankedHunk}
use Rattle.hunk_link.proofs.CarriedHunksLemmas.{adds-known, its_addends-inside, making-begun, making-more, made-all, room-left}
use Rattle.hunk_link.proofs.carried.copied_hunks.Goals as goal

pub loop-ranked-init : goal.loop-ranked-init
loop-ranked-init g c = record {
  room = omega (arith, c.in_ok-carried.ensures.capacity);
  making = making-begun c.args.addends.now c.args.strip c.args.hunks.now c.in_ok-carried.carried.items c.in_ok-carried.ensures.items c.requires.counted c.requires.ranks c.requires.own;
}

-- the remaining hunks begin with the one that was read
shown : (hunks : List RankedHunk) (i : ℕ) (item ranked : RankedHunk) → i < length hunks → item ≡ get_or hunks i item → ranked ≡ item → drop i hunks ≡ ranked ∷ drop (i + 1) hunks
shown hunks i item ranked within is same = drop_more hunks i item within ∙ ap (λ r. r ∷ drop (i + 1) hunks) (sym is ∙ sym same)

pub overflow_add-own : goal.overflow_add-own
overflow_add-own g c =
    let left = shown _ _ _ _ c.loop-ranked-test.true c.ranked-item.is c.ranked.view_is in
    let inside = its_addends-inside _ _ _ _ _ _ c.loop-ranked.invariant.making _ _ left _ (ap length c.references-count.ensures.value) in
    omega (arith, inside, c.well_formed.1.1.0.0)

pub offset_bounds-addends-next : goal.offset_bounds-addends-next
offset_bounds-addends-next g c =
    let left = shown _ _ _ _ c.loop-ranked-test.true c.ranked-item.is c.ranked.view_is in
    let inside = its_addends-inside _ _ _ _ _ _ c.loop-ranked.invariant.making _ _ left _ (ap length c.references-count.ensures.value) in
    omega (arith, inside, c.well_formed.1.1.0.1)

pub slice_bounds-own-end : goal.slice_bounds-own-end
slice_bounds-own-end g c =
    let left = shown _ _ _ _ c.loop-ranked-test.true c.ranked-item.is c.ranked.view_is in
    its_addends-inside _ _ _ _ _ _ c.loop-ranked.invariant.making _ _ left _ (ap length c.references-count.ensures.value)

pub copied_hunk-requires : goal.copied_hunk-requires
copied_hunk-requires g c =
    let left = shown _ _ _ _ c.loop-ranked-test.true c.ranked-item.is c.ranked.view_is in
    let count = ap length c.references-count.ensures.value in
    adds-known _ _ _ _ _ _ c.loop-ranked.invariant.making _ _ left (c.loop-ranked.next + length c.references-count.result.now - c.loop-ranked.next) (omega (arith, count)) c.references-count.ensures.valid

pub push_reserved-requires : goal.push_reserved-requires
push_reserved-requires g c =
    let left = shown _ _ _ _ c.loop-ranked-test.true c.ranked-item.is c.ranked.view_is in
    let room = room-left _ _ _ _ _ _ c.loop-ranked.invariant.making _ _ left in
    omega (arith, c.loop-ranked.carried.ok.0)

pub loop-ranked-preserved : goal.loop-ranked-preserved
loop-ranked-preserved g c =
    let left = shown _ _ _ _ c.loop-ranked-test.true c.ranked-item.is c.ranked.view_is in
    let count = ap length c.references-count.ensures.value in
    record {
      room = omega (arith, c.push_reserved.ensures.capacity);
      making = making-more _ _ _ _ _ _ c.loop-ranked.invariant.making _ _ left (c.loop-ranked.next + length c.references-count.result.now - c.loop-ranked.next) (omega (arith, count))
          c.in_ok-copied_hunk.field-0 c.in_ok-copied_hunk.ensures c.push_reserved.new.self.items c.push_reserved.ensures.items _ (omega arith);
    }

pub returns : goal.returns
returns g c = made-all _ _ _ _ _ _ c.loop-ranked.invariant.making (drop_all _ _ c.loop-ranked-test.false)

pub overflow_add-next : goal.overflow_add-next
overflow_add-next g c =
    let left = shown _ _ _ _ c.loop-ranked-test.true c.ranked-item.is c.ranked.view_is in
    let inside = its_addends-inside _ _ _ _ _ _ c.loop-ranked.invariant.making _ _ left _ (ap length c.references-count.ensures.value) in
    omega (arith, inside, c.well_formed.1.1.0.0)
