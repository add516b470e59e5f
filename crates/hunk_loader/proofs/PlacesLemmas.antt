-- Hunks are placed or rejected, never both, and for one fault only.
use Rattle.std.proofs.Common.{◌≡◌, ◌↔◌, ◌⊎◌, inl, inr, ℕ, zero, suc, ◌<◌, List, length, refl, ap, sym, subst, arith, slice_index, EachIndex, ◌^◌, max, min, Result, IsOk, Ok, Err}
use Rattle.std.proofs.lemmas.Bool.{cases_lt, cases_eq}
use Rattle.std.proofs.lemmas.List.{get_or_past}
use Rattle.hunk_loader.specs.declared.places.PlaceFault.{PlaceFault}
use Rattle.hunk_loader.specs.declared.places.PlaceFault.TheVariants.{WrongCount, PastEnd, Overlap}
use Rattle.hunk_loader.specs.Laws.{PlacedOrRefused}
use Rattle.hunk_loader.specs.Places.{Takes, AllApart, AllEndWithin, ApartFromEarlier, Fit, Placed, ShareAddress, IsFirstPastEnd, IsLeastEarlier, IsFirstOverlap, IsFirstRefusal, end_of}

-- what takes an address has a size, so it is a hunk
pub Takes-is_hunk :
    (sizes bases : List ℕ) (hunk address : ℕ) → length sizes ≡ length bases →
    Takes sizes bases hunk address → hunk < length bases
Takes-is_hunk sizes bases hunk address counted takes =
    grind (arith, get_or_past sizes hunk 0, takes.from_base, takes.before_end)

pub AllApart-one_taker :
    (sizes bases : List ℕ) → length sizes ≡ length bases → AllApart sizes bases →
    (one other address : ℕ) → Takes sizes bases one address → Takes sizes bases other address →
    one ≡ other
AllApart-one_taker sizes bases counted apart one other address in_one in_other =
    let is_one = Takes-is_hunk sizes bases one address counted in_one in
    let is_other = Takes-is_hunk sizes bases other address counted in_other in
    let not_below : one < other → ⊥ = λ below. apart other is_other one below (record { address = address; in_one = in_one; in_other = in_other }) in
    let not_above : other < one → ⊥ = λ above. apart one is_one other above (record { address = address; in_one = in_other; in_other = in_one }) in
    omega arith

pub Placed-from_apart :
    (sizes bases : List ℕ) → length sizes ≡ length bases →
    EachIndex bases (λ hunk. slice_index bases hunk < 2 ^ 32) → AllEndWithin sizes bases →
    AllApart sizes bases → Placed sizes bases
Placed-from_apart sizes bases counted addresses within apart =
    record { one_base_each = counted; bases_are_addresses = addresses; ends_within = within; apart = AllApart-one_taker sizes bases counted apart }

pub Placed-from_fit :
    (sizes bases : List ℕ) → EachIndex bases (λ hunk. slice_index bases hunk < 2 ^ 32) → Fit sizes bases →
    AllApart sizes bases → Placed sizes bases
Placed-from_fit sizes bases addresses fit apart = Placed-from_apart sizes bases fit.one_base_each addresses fit.ends_within apart

pub Overlap-from_fit :
    (sizes bases : List ℕ) (earlier later : ℕ) → Fit sizes bases → IsFirstOverlap sizes bases earlier later →
    IsFirstRefusal sizes bases (Overlap earlier later)
Overlap-from_fit sizes bases earlier later fit overlap = (fit.one_base_each, fit.ends_within, overlap)

pub Placed-unrefused :
    (sizes bases : List ℕ) → Placed sizes bases → (fault : PlaceFault) →
    IsFirstRefusal sizes bases fault → ⊥
Placed-unrefused sizes bases placed WrongCount refused = refused placed.one_base_each
Placed-unrefused sizes bases placed (PastEnd hunk) (counted, past) =
    let within = placed.ends_within hunk past.is_hunk in
    omega (arith, past.ends_past)
Placed-unrefused sizes bases placed (Overlap earlier later) (counted, within, overlap) =
    let least = overlap.least_earlier in
    let share = least.share in
    omega (arith, least.is_earlier, placed.apart earlier later share.address share.in_one share.in_other)

pub IsFirstPastEnd-unique :
    (sizes bases : List ℕ) (hunk other : ℕ) → IsFirstPastEnd sizes bases hunk →
    IsFirstPastEnd sizes bases other → hunk ≡ other
IsFirstPastEnd-unique sizes bases hunk other first second =
    let not_below : hunk < other → ⊥ = λ below. omega (arith, second.lower_end_within hunk below, first.ends_past) in
    let not_above : other < hunk → ⊥ = λ above. omega (arith, first.lower_end_within other above, second.ends_past) in
    omega arith

pub IsLeastEarlier-unique :
    (sizes bases : List ℕ) (earlier other later : ℕ) → IsLeastEarlier sizes bases earlier later →
    IsLeastEarlier sizes bases other later → earlier ≡ other
IsLeastEarlier-unique sizes bases earlier other later first second =
    let not_below : earlier < other → ⊥ = λ below. second.lower_apart earlier below first.share in
    let not_above : other < earlier → ⊥ = λ above. first.lower_apart other above second.share in
    omega arith

pub IsFirstOverlap-later_unique :
    (sizes bases : List ℕ) (earlier later other_earlier other_later : ℕ) →
    IsFirstOverlap sizes bases earlier later →
    IsFirstOverlap sizes bases other_earlier other_later → later ≡ other_later
IsFirstOverlap-later_unique sizes bases earlier later other_earlier other_later first second =
    let least = first.least_earlier in
    let other_least = second.least_earlier in
    let not_below : later < other_later → ⊥ = λ below. second.lower_apart later below earlier least.is_earlier least.share in
    let not_above : other_later < later → ⊥ = λ above. first.lower_apart other_later above other_earlier other_least.is_earlier other_least.share in
    omega arith

pub IsFirstOverlap-earlier_unique :
    (sizes bases : List ℕ) (earlier later other_earlier other_later : ℕ) →
    IsFirstOverlap sizes bases earlier later →
    IsFirstOverlap sizes bases other_earlier other_later → earlier ≡ other_earlier
IsFirstOverlap-earlier_unique sizes bases earlier later other_earlier other_later first second =
    let same = IsFirstOverlap-later_unique sizes bases earlier later other_earlier other_later first second in
    let P : ℕ → Type 0 = λ hunk. IsLeastEarlier sizes bases other_earlier hunk in
    IsLeastEarlier-unique sizes bases earlier other_earlier later first.least_earlier (subst P (sym same) second.least_earlier)

pub IsFirstRefusal-unique :
    (sizes bases : List ℕ) (fault other : PlaceFault) → IsFirstRefusal sizes bases fault →
    IsFirstRefusal sizes bases other → fault ≡ other
IsFirstRefusal-unique sizes bases WrongCount WrongCount first second = refl
IsFirstRefusal-unique sizes bases WrongCount (PastEnd hunk) first second = absurd (first second.0)
IsFirstRefusal-unique sizes bases WrongCount (Overlap earlier later) first second = absurd (first second.0)
IsFirstRefusal-unique sizes bases (PastEnd hunk) WrongCount first second = absurd (second first.0)
IsFirstRefusal-unique sizes bases (PastEnd hunk) (PastEnd other) first second =
    ap (λ k. PastEnd k) (IsFirstPastEnd-unique sizes bases hunk other first.1 second.1)
IsFirstRefusal-unique sizes bases (PastEnd hunk) (Overlap earlier later) first second =
    let past = first.1 in
    absurd (omega (arith, second.1 hunk past.is_hunk, past.ends_past))
IsFirstRefusal-unique sizes bases (Overlap earlier later) WrongCount first second = absurd (second first.0)
IsFirstRefusal-unique sizes bases (Overlap earlier later) (PastEnd hunk) first second =
    let past = second.1 in
    absurd (omega (arith, first.1 hunk past.is_hunk, past.ends_past))
IsFirstRefusal-unique sizes bases (Overlap earlier later) (Overlap other_earlier other_later) first second =
    let same_later = IsFirstOverlap-later_unique sizes bases earlier later other_earlier other_later first.2 second.2 in
    let same_earlier = IsFirstOverlap-earlier_unique sizes bases earlier later other_earlier other_later first.2 second.2 in
    cc

-- what `check_places` returns: a fault, or none
abbrev Answer : Type 0
Answer = Result (Unit {0}) PlaceFault

abbrev refusal : PlaceFault → Answer
refusal fault = Err fault

abbrev success : Answer
success = Ok tt

-- the first fault is that fault, and no other
pub refusal-placed :
    (sizes bases : List ℕ) (fault : PlaceFault) → IsFirstRefusal sizes bases fault →
    IsOk (refusal fault) ↔ Placed sizes bases
refusal-placed sizes bases fault refused =
    (λ ok. cc, λ placed. absurd (Placed-unrefused sizes bases placed fault refused))

pub refusal-refused :
    (sizes bases : List ℕ) (fault : PlaceFault) → IsFirstRefusal sizes bases fault →
    (other : PlaceFault) → (refusal fault ≡ refusal other) ↔ IsFirstRefusal sizes bases other
refusal-refused sizes bases fault refused other =
    (λ same. let P : PlaceFault → Type 0 = IsFirstRefusal sizes bases in let e : fault ≡ other = cc in subst P e refused, λ is_first. ap (λ f. refusal f) (IsFirstRefusal-unique sizes bases fault other refused is_first))

-- lists that are placed have no fault
pub success-refused :
    (sizes bases : List ℕ) → Placed sizes bases → (fault : PlaceFault) →
    (success ≡ refusal fault) ↔ IsFirstRefusal sizes bases fault
success-refused sizes bases placed fault =
    (λ same. cc, λ refused. absurd (Placed-unrefused sizes bases placed fault refused))

-- ---- placed or rejected

-- the first number below a limit for which a decidable fact holds, or none
first-below :
    (P : ℕ → Type 0) → ((k : ℕ) → P k ⊎ (P k → ⊥)) → (n : ℕ) →
    ((k : ℕ) × (k < n) × P k × ((lower : ℕ) → lower < k → P lower → ⊥)) ⊎ ((k : ℕ) → k < n → P k → ⊥)
first-below P decide zero = inr (λ k below holds. absurd (omega arith))
first-below P decide (suc n) = elim (first-below P decide n) [
  | inl found ↦ inl (found.0, omega (arith, found.1), found.2, found.3)
  | inr none ↦ elim (decide n) [
    | inl holds ↦ inl (n, omega arith, holds, none)
    | inr fails ↦ inr (λ k below. elim (cases_lt k n) [ inl lower ↦ none k lower | inr above ↦ let same : k ≡ n = omega arith in λ holds. fails (subst P same holds) ])
  ]
]

ShareAddress-decided : (sizes bases : List ℕ) (one other : ℕ) → ShareAddress sizes bases one other ⊎ (ShareAddress sizes bases one other → ⊥)
ShareAddress-decided sizes bases one other =
    let base = max (slice_index bases one) (slice_index bases other) in
    elim (cases_lt base (min (end_of sizes bases one) (end_of sizes bases other))) [
      | inl below ↦ inl (record {
        address = base;
        in_one = record { from_base = omega arith; before_end = omega arith };
        in_other = record { from_base = omega arith; before_end = omega arith };
      })
      | inr above ↦ inr (λ share. omega (arith, share.in_one.from_base, share.in_one.before_end, share.in_other.from_base, share.in_other.before_end))
    ]

-- some earlier hunk shares an address with this one
abbrev MeetsEarlier : (sizes bases : List ℕ) → ℕ → Type 0
MeetsEarlier sizes bases later = (earlier : ℕ) × IsLeastEarlier sizes bases earlier later

MeetsEarlier-decided : (sizes bases : List ℕ) (later : ℕ) → MeetsEarlier sizes bases later ⊎ (MeetsEarlier sizes bases later → ⊥)
MeetsEarlier-decided sizes bases later =
    elim (first-below (λ earlier. ShareAddress sizes bases earlier later) (λ earlier. ShareAddress-decided sizes bases earlier later) later) [
      | inl found ↦ inl (found.0, record { is_earlier = found.1; share = found.2; lower_apart = found.3 })
      | inr none ↦ inr (λ meets. none meets.0 meets.1.is_earlier meets.1.share)
    ]

-- if there is no lowest one that meets it, none does
ApartFromEarlier-none : (sizes bases : List ℕ) (later : ℕ) → (MeetsEarlier sizes bases later → ⊥) → ApartFromEarlier sizes bases later
ApartFromEarlier-none sizes bases later none earlier below share =
    elim (first-below (λ k. ShareAddress sizes bases k later) (λ k. ShareAddress-decided sizes bases k later) later) [
      | inl found ↦ none (found.0, record { is_earlier = found.1; share = found.2; lower_apart = found.3 })
      | inr apart ↦ apart earlier below share
    ]

past_end-decided : (sizes bases : List ℕ) (hunk : ℕ) → (2 ^ 32 < end_of sizes bases hunk) ⊎ (2 ^ 32 < end_of sizes bases hunk → ⊥)
past_end-decided sizes bases hunk = elim (cases_lt (2 ^ 32) (end_of sizes bases hunk)) [ inl past ↦ inl past | inr within ↦ inr (λ past. omega arith) ]

pub placed-or-refused : PlacedOrRefused
placed-or-refused sizes bases addresses = elim (cases_eq (length sizes) (length bases)) [
  | inr differ ↦ inr (WrongCount, differ)
  | inl counted ↦ elim (first-below (λ hunk. 2 ^ 32 < end_of sizes bases hunk) (past_end-decided sizes bases) (length bases)) [
    | inl past ↦ inr (PastEnd past.0, (counted, record { is_hunk = past.1; ends_past = past.2; lower_end_within = λ lower below. elim (cases_lt (2 ^ 32) (end_of sizes bases lower)) [ inl over ↦ absurd (past.3 lower below over) | inr within ↦ within ] }))
    | inr none ↦
        let within : AllEndWithin sizes bases = λ hunk is_hunk. elim (cases_lt (2 ^ 32) (end_of sizes bases hunk)) [ inl over ↦ absurd (none hunk is_hunk over) | inr ends ↦ ends ] in
        elim (first-below (MeetsEarlier sizes bases) (MeetsEarlier-decided sizes bases) (length bases)) [
          | inl meets ↦ inr (Overlap meets.2.0 meets.0, (counted, within, record { is_hunk = meets.1; least_earlier = meets.2.1; lower_apart = λ lower below. ApartFromEarlier-none sizes bases lower (meets.3 lower below) }))
          | inr apart ↦ inl (Placed-from_apart sizes bases counted addresses within (λ later is_hunk. ApartFromEarlier-none sizes bases later (apart later is_hunk)))
        ]
  ]
]
