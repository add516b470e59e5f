-- The extents of hunks: one more of them, their order, and what it tells of the hunks.
use Rattle.std.proofs.Common.{◌≡◌, ◌≢◌, ◌⊎◌, inl, inr, ◌∙◌, ℕ, zero, suc, ◌+◌, ◌<◌, ◌≤◌, Bool, false, List, [], ◌∷◌, ◌++◌, eqb, get_or, length, max, slice_index, ap, refl, subst, sym, arith}
use Rattle.std.proofs.lemmas.Bool.{cases_eq, cases_lt, eqb-false, ne_eqb}
use Rattle.std.proofs.lemmas.List.{get_or_append_left, get_or_default, get_or_push, length_push}
use Rattle.std.proofs.lemmas.List.Elements.{All-get_or, All-nil, All-push, All-weaker, Contains-append_left, Contains-push}
use Rattle.std.proofs.lemmas.List.Sorted.{All-permutation, Contains-permutation}
use Rattle.std.proofs.lemmas.Map.Keys.{IsDistinct-IsPermutation, IsDistinct-from_apart, apart_from_distinct}
use Rattle.std.specs.List.{Contains}
use Rattle.std.specs.List.Sorted.{IsPermutation}
use Rattle.hunk_loader.specs.Overlaps.{AreExtents, AreInOrderBelow, AreRisingExtents, IsExtent, IsOneOf, extent_of}
use Rattle.hunk_loader.specs.Places.{ApartFromEarlier, ShareAddress, Takes}
use Rattle.hunk_loader.specs.declared.overlaps.Extent.{Extent}

abbrev same_hunk : Extent → Extent → Bool
same_hunk one other = eqb one.hunk other.hunk

-- numbers are compared either way round
flips : (one other : ℕ) → eqb one other ≡ eqb other one
flips one other = elim (cases_eq one other) [
  | inl same ↦ rw same refl
  | inr differ ↦ ne_eqb one other differ ∙ sym (ne_eqb other one (λ same. differ (sym same)))
]

-- ---- one more hunk

IsOneOf-more : (sizes bases : List ℕ) (count : ℕ) (extent : Extent) → IsOneOf sizes bases count extent → IsOneOf sizes bases (count + 1) extent
IsOneOf-more sizes bases count extent one = (omega (arith, one.0), one.1)

pub AreExtents-none : (sizes bases : List ℕ) → AreExtents sizes bases 0 []
AreExtents-none sizes bases = record {
  each = All-nil (IsOneOf sizes bases 0);
  every = λ hunk below some. absurd (omega (arith, below));
  once = IsDistinct-from_apart same_hunk [] (λ i j d below within. absurd (omega (arith, within)));
}

-- which is empty
pub AreExtents-same : (sizes bases : List ℕ) (count : ℕ) (extents : List Extent) → slice_index sizes count ≡ 0 → AreExtents sizes bases count extents → AreExtents sizes bases (count + 1) extents
AreExtents-same sizes bases count extents none are = record {
  each = All-weaker (IsOneOf sizes bases count) (IsOneOf sizes bases (count + 1)) (IsOneOf-more sizes bases count) extents are.each;
  every = λ hunk below some. elim (cases_lt hunk count) [
    | inl lower ↦ are.every hunk lower some
    | inr above ↦ let same : hunk ≡ count = omega (arith, below, above) in absurd (omega (arith, some, none, ap (slice_index sizes) same))
  ];
  once = are.once;
}

-- it differs from those before it
differs : (sizes bases : List ℕ) (count : ℕ) (extents : List Extent) → AreExtents sizes bases count extents
    → (i j : ℕ) (d : Extent) → i < j → j < length (extents ++ extent_of sizes bases count ∷ [])
    → same_hunk (get_or (extents ++ extent_of sizes bases count ∷ []) i d) (get_or (extents ++ extent_of sizes bases count ∷ []) j d) ≡ false
differs sizes bases count extents are i j d below within =
    let new = extent_of sizes bases count in
    let counted = length_push extents new in
    let old : i < length extents = omega (arith, below, within, counted) in
    let first = get_or_append_left extents (new ∷ []) d i old in
    elim (cases_lt j (length extents)) [
      | inl lower ↦ rw (first, get_or_append_left extents (new ∷ []) d j lower) (apart_from_distinct same_hunk extents i j d are.once below lower)
      | inr last ↦
          let other = All-get_or (IsOneOf sizes bases count) extents i d old are.each in
          rw (first, get_or_push extents new d j (omega (arith, within, counted, last))) (ne_eqb (get_or extents i d).hunk count (λ same. omega (arith, same, other.0)))
    ]

more : (sizes bases : List ℕ) (count : ℕ) (extents : List Extent) → 0 < slice_index sizes count → AreExtents sizes bases count extents
    → AreExtents sizes bases (count + 1) (extents ++ extent_of sizes bases count ∷ [])
more sizes bases count extents some are =
    let new = extent_of sizes bases count in
    let old = All-weaker (IsOneOf sizes bases count) (IsOneOf sizes bases (count + 1)) (IsOneOf-more sizes bases count) extents are.each in
    record {
      each = All-push (IsOneOf sizes bases (count + 1)) extents new old (omega arith, record { some = some; is = refl });
      every = λ hunk below any. elim (cases_lt hunk count) [
        | inl lower ↦ Contains-append_left extents (new ∷ []) (extent_of sizes bases hunk) (are.every hunk lower any)
        | inr above ↦ let same : count ≡ hunk = omega (arith, below, above) in subst (λ h. Contains (extents ++ new ∷ []) (extent_of sizes bases h)) same (Contains-push extents new)
      ];
      once = IsDistinct-from_apart same_hunk (extents ++ new ∷ []) (differs sizes bases count extents are);
    }

-- which is not empty
pub AreExtents-push : (sizes bases : List ℕ) (count : ℕ) (extents : List Extent) (extent : Extent) → IsExtent sizes bases count extent → AreExtents sizes bases count extents
    → AreExtents sizes bases (count + 1) (extents ++ extent ∷ [])
AreExtents-push sizes bases count extents extent one are = subst (λ new. AreExtents sizes bases (count + 1) (extents ++ new ∷ [])) (sym one.is) (more sizes bases count extents one.some are)

-- ---- in another order

pub AreExtents-permutation : (sizes bases : List ℕ) (count : ℕ) (xs ys : List Extent) → IsPermutation xs ys → AreExtents sizes bases count xs → AreExtents sizes bases count ys
AreExtents-permutation sizes bases count xs ys moved are = record {
  each = All-permutation (IsOneOf sizes bases count) xs ys moved are.each;
  every = λ hunk below some. Contains-permutation xs ys (extent_of sizes bases hunk) moved (are.every hunk below some);
  once = IsDistinct-IsPermutation same_hunk (λ one other. flips one.hunk other.hunk) xs ys moved are.once;
}

-- ---- in order

-- where a list has an element, at any default
place : (extents : List Extent) (extent d : Extent) → Contains extents extent → (k : ℕ) × (k < length extents) × (get_or extents k d ≡ extent)
place extents extent d has = (has.0, has.1, get_or_default extents has.0 d extent has.1 ∙ has.2)

-- a hunk that takes an address is not empty
some : (sizes bases : List ℕ) (hunk address : ℕ) → Takes sizes bases hunk address → 0 < slice_index sizes hunk
some sizes bases hunk address takes = omega (arith, takes.from_base, takes.before_end)

-- hunks in order share no address
pub in_order-apart : (sizes bases : List ℕ) (extents : List Extent) (limit : ℕ) → AreExtents sizes bases (length bases) extents → AreInOrderBelow extents limit → limit ≤ length bases
    → (later : ℕ) → later < limit → ApartFromEarlier sizes bases later
in_order-apart sizes bases extents limit are order within later below earlier lower share =
    let one = extent_of sizes bases earlier in
    let other = extent_of sizes bases later in
    let first = place extents one one (are.every earlier (omega (arith, lower, below, within)) (some sizes bases earlier share.address share.in_one)) in
    let second = place extents other one (are.every later (omega (arith, below, within)) (some sizes bases later share.address share.in_other)) in
    let first_below : (get_or extents first.0 one).hunk < limit = rw first.2 (omega (arith, lower, below)) in
    let second_below : (get_or extents second.0 one).hunk < limit = rw second.2 below in
    elim (cases_lt first.0 second.0) [
      | inl before ↦
          let after = order first.0 second.0 one before second.1 first_below second_below in
          omega (arith, after, ap (λ e. e.end) first.2, ap (λ e. e.base) second.2, share.in_one.before_end, share.in_other.from_base)
      | inr from ↦ elim (cases_lt second.0 first.0) [
        | inl before ↦
            let after = order second.0 first.0 one before first.1 second_below first_below in
            omega (arith, after, ap (λ e. e.end) second.2, ap (λ e. e.base) first.2, share.in_other.before_end, share.in_one.from_base)
        | inr to ↦
            let same : first.0 ≡ second.0 = omega (arith, from, to) in
            omega (arith, lower, ap (λ e. e.hunk) (sym first.2 ∙ ap (λ k. get_or extents k one) same ∙ second.2))
      ]
    ]

-- the higher base is an address of both
shares : (sizes bases : List ℕ) (count : ℕ) (one other : Extent) → IsOneOf sizes bases count one → IsOneOf sizes bases count other → one.base ≤ other.base → other.base < one.end
    → ShareAddress sizes bases one.hunk other.hunk
shares sizes bases count one other is_one is_other rises meets =
    let base = ap (λ e. e.base) is_one.1.is in
    let end = ap (λ e. e.end) is_one.1.is in
    let other_base = ap (λ e. e.base) is_other.1.is in
    record {
      address = other.base;
      in_one = record { from_base = omega (arith, base, rises); before_end = omega (arith, end, meets) };
      in_other = record { from_base = omega (arith, other_base); before_end = omega (arith, other_base, is_other.1.some) };
    }

swapped : (sizes bases : List ℕ) (one other : ℕ) → ShareAddress sizes bases one other → ShareAddress sizes bases other one
swapped sizes bases one other share = record { address = share.address; in_one = share.in_other; in_other = share.in_one }

lower-from_differ : (one other : ℕ) → one ≢ other → other ≤ one → other < one
lower-from_differ one other differ from = elim (cases_lt other one) [ inl lower ↦ lower | inr to ↦ let same : one ≡ other = omega (arith, from, to) in absurd (differ same) ]

-- hunks that share no address are in order
pub apart-in_order : (sizes bases : List ℕ) (extents : List Extent) (limit : ℕ) → AreRisingExtents sizes bases extents
    → ((later : ℕ) → later < limit → ApartFromEarlier sizes bases later) → AreInOrderBelow extents limit
apart-in_order sizes bases extents limit are apart before after d order within first second =
    let one = get_or extents before d in
    let other = get_or extents after d in
    let inside : before < length extents = omega (arith, order, within) in
    let is_one = All-get_or (IsOneOf sizes bases (length bases)) extents before d inside are.all.each in
    let is_other = All-get_or (IsOneOf sizes bases (length bases)) extents after d within are.all.each in
    let differ = eqb-false one.hunk other.hunk (apart_from_distinct same_hunk extents before after d are.all.once order within) in
    elim (cases_lt other.base one.end) [
      | inr stands ↦ stands
      | inl meets ↦
          let share = shares sizes bases (length bases) one other is_one is_other (are.rising before after d (omega (arith, order)) within) meets in
          elim (cases_lt one.hunk other.hunk) [
            | inl lower ↦ absurd (apart other.hunk second one.hunk lower share)
            | inr higher ↦
                let below : other.hunk < one.hunk = lower-from_differ one.hunk other.hunk differ higher in
                absurd (apart one.hunk first other.hunk below (swapped sizes bases one.hunk other.hunk share))
          ]
    ]

-- ---- as far as a walk has come

-- The first so many extents are in order below the limit, and nothing of these ends after `free`, where one of them ends.
pub record OrderTo (extents : List Extent) (limit count free : ℕ) : Type 0 where
  pub ordered : (before after : ℕ) (d : Extent) → before < after → after < count → (get_or extents before d).hunk < limit → (get_or extents after d).hunk < limit → (get_or extents before d).end ≤ (get_or extents after d).base
  pub behind : (before : ℕ) (d : Extent) → before < count → (get_or extents before d).hunk < limit → (get_or extents before d).end ≤ free
  pub reached : (free ≡ 0) ⊎ ((before : ℕ) × (before < count) × ((d : Extent) → ((get_or extents before d).hunk < limit) × (free ≡ (get_or extents before d).end)))

-- ---- a limit

-- of no hunks
pub none_out_of_order : (extents : List Extent) → AreInOrderBelow extents 0
none_out_of_order extents before after d order within first second = absurd (omega (arith, first))

pub some-out_of_order : (extents : List Extent) (limit : ℕ) → (AreInOrderBelow extents limit → ⊥) → 0 < limit
some-out_of_order extents zero out = absurd (out (none_out_of_order extents))
some-out_of_order extents (suc limit) out = omega arith

-- the hunks below a limit, and the one at the limit
pub ApartFromEarlier-more : (sizes bases : List ℕ) (limit : ℕ) → ((later : ℕ) → later < limit → ApartFromEarlier sizes bases later) → ApartFromEarlier sizes bases limit
    → (later : ℕ) → later < limit + 1 → ApartFromEarlier sizes bases later
ApartFromEarlier-more sizes bases limit before last later below = elim (cases_lt later limit) [
  | inl lower ↦ before later lower
  | inr above ↦ let same : limit ≡ later = omega (arith, below, above) in subst (ApartFromEarlier sizes bases) same last
]

-- ---- one more extent of a walk

-- an extent as a loop reads it
abbrev read : List Extent → ℕ → Extent
read extents at = get_or extents at (record { base = 0; end = 0; hunk = 0 })

at_read : (extents : List Extent) (count at : ℕ) (d : Extent) → count < length extents → at ≡ count → get_or extents at d ≡ read extents count
at_read extents count at d within same = ap (λ k. get_or extents k d) same ∙ get_or_default extents count d (record { base = 0; end = 0; hunk = 0 }) within

-- one that begins before the others end
pub OrderTo-stop : (extents : List Extent) (limit count free : ℕ) → OrderTo extents limit count free → count < length extents → (read extents count).hunk < limit → (read extents count).base < free
    → AreInOrderBelow extents limit → ⊥
OrderTo-stop extents limit count free walked within below meets order = elim walked.reached [
  | inl none ↦ omega (arith, meets, none)
  | inr some ↦
      let d : Extent = record { base = 0; end = 0; hunk = 0 } in
      let one = some.2 d in
      omega (arith, meets, one.1, order some.0 count d some.1 within one.0 below)
]

-- one that is not below the limit
pub OrderTo-skip : (extents : List Extent) (limit count free : ℕ) → OrderTo extents limit count free → count < length extents → limit ≤ (read extents count).hunk → OrderTo extents limit (count + 1) free
OrderTo-skip extents limit count free walked within above =
    let out : (at : ℕ) (d : Extent) → count ≤ at → at < count + 1 → (get_or extents at d).hunk < limit → ⊥ =
    λ at d from to below. omega (arith, above, below, ap (λ e. e.hunk) (at_read extents count at d within (omega (arith, from, to)))) in
    record {
      ordered = λ before after d order inside first second. elim (cases_lt after count) [ inl lower ↦ walked.ordered before after d order lower first second | inr from ↦ absurd (out after d from inside second) ];
      behind = λ before d inside first. elim (cases_lt before count) [ inl lower ↦ walked.behind before d lower first | inr from ↦ absurd (out before d from inside first) ];
      reached = elim walked.reached [ inl none ↦ inl none | inr some ↦ inr (some.0, omega (arith, some.1), some.2) ];
    }

-- one that stands after the others
pub OrderTo-more : (extents : List Extent) (limit count free next : ℕ) → OrderTo extents limit count free → count < length extents → (read extents count).hunk < limit → free ≤ (read extents count).base
    → next ≡ max (read extents count).end free → OrderTo extents limit (count + 1) next
OrderTo-more extents limit count free next walked within below stands is =
    let same : (at : ℕ) (d : Extent) → count ≤ at → at < count + 1 → get_or extents at d ≡ read extents count = λ at d from to. at_read extents count at d within (omega (arith, from, to)) in
    record {
      ordered = λ before after d order inside first second. elim (cases_lt after count) [
        | inl lower ↦ walked.ordered before after d order lower first second
        | inr from ↦ omega (arith, stands, walked.behind before d (omega (arith, order, inside)) first, ap (λ e. e.base) (same after d from inside))
      ];
      behind = λ before d inside first. elim (cases_lt before count) [
        | inl lower ↦ omega (arith, is, walked.behind before d lower first)
        | inr from ↦ omega (arith, is, ap (λ e. e.end) (same before d from inside))
      ];
      reached = elim (cases_lt free (read extents count).end) [
        | inl longer ↦ inr (
          count,
          omega arith,
          λ d.
              let here = at_read extents count count d within refl in
              (omega (arith, below, ap (λ e. e.hunk) here), omega (arith, is, longer, ap (λ e. e.end) here)),
        )
        | inr within_free ↦ let kept : next ≡ free = omega (arith, is, within_free) in elim walked.reached [
          | inl none ↦ inl (kept ∙ none)
          | inr some ↦ inr (some.0, omega (arith, some.1), λ d. ((some.2 d).0, kept ∙ (some.2 d).1))
        ]
      ];
    }
