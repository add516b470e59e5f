-- The addresses that hunks take. A hunk is identified by its number; one list has its size in
-- longwords and another its base, an address.
use Rattle.std.specs.Prelude.{◌≡◌, ◌≢◌, ◌⊎◌, ℕ, ◌+◌, ◌-◌, ◌*◌, ◌^◌, ◌<◌, ◌≤◌, List, length, slice_index, EachIndex}
use Rattle.hunk_loader.specs.declared.places.Direction.{Direction}
use Rattle.hunk_loader.specs.declared.places.Direction.TheVariants.{Forward, Backward}
use Rattle.hunk_loader.specs.declared.places.PlaceFault.{PlaceFault}
use Rattle.hunk_loader.specs.declared.places.PlaceFault.TheVariants.{WrongCount, PastEnd, Overlap}

-- the address after the last one of a hunk, or its base if it is empty
abbrev pub end_of : (sizes bases : List ℕ) → ℕ → ℕ
end_of sizes bases hunk = slice_index bases hunk + 4 * slice_index sizes hunk

-- the hunk takes this address: from its base on, it takes four for each longword
pub record Takes (sizes bases : List ℕ) (hunk address : ℕ) : Type 0 where
  pub from_base : slice_index bases hunk ≤ address
  pub before_end : address < end_of sizes bases hunk

-- both hunks take some address
pub record ShareAddress (sizes bases : List ℕ) (one other : ℕ) : Type 0 where
  pub address : ℕ
  pub in_one : Takes sizes bases one address
  pub in_other : Takes sizes bases other address

-- the hunk ends at or before 2 ^ 32, which is after the last address
abbrev pub EndsWithin : (sizes bases : List ℕ) → ℕ → Type 0
EndsWithin sizes bases hunk = end_of sizes bases hunk ≤ 2 ^ 32

abbrev pub AllEndWithin : (sizes bases : List ℕ) → Type 0
AllEndWithin sizes bases = EachIndex bases (EndsWithin sizes bases)

-- the hunk shares no address with an earlier one
abbrev pub ApartFromEarlier : (sizes bases : List ℕ) → ℕ → Type 0
ApartFromEarlier sizes bases later =
    (earlier : ℕ) → earlier < later → ¬ ShareAddress sizes bases earlier later

-- no address is taken by two hunks
abbrev pub AllApart : (sizes bases : List ℕ) → Type 0
AllApart sizes bases = EachIndex bases (ApartFromEarlier sizes bases)

-- Each hunk has a base, and each base is an address; no hunk ends after the last address, and any
-- two hunks that take one address are the same hunk.
pub record Placed (sizes bases : List ℕ) : Type 0 where
  pub one_base_each : length sizes ≡ length bases
  pub bases_are_addresses : EachIndex bases (λ hunk. slice_index bases hunk < 2 ^ 32)
  pub ends_within : AllEndWithin sizes bases
  pub apart :
      (one other address : ℕ) →
      Takes sizes bases one address →
      Takes sizes bases other address →
      one ≡ other

-- the hunk, of so many, that is looked at after `count` others: from the first one on, or from the last one on
abbrev pub hunk_at : Direction → (hunks count : ℕ) → ℕ
hunk_at Forward hunks count = count
hunk_at Backward hunks count = hunks - 1 - count

-- Each hunk that is not empty stands after all those that are looked at before it.
abbrev pub IsInOrder : Direction → (sizes bases : List ℕ) → Type 0
IsInOrder direction sizes bases =
    (before after : ℕ) →
    before < after →
    after < length bases →
    0 < slice_index sizes (hunk_at direction (length bases) before) →
    0 < slice_index sizes (hunk_at direction (length bases) after) →
    end_of sizes bases (hunk_at direction (length bases) before) ≤ slice_index bases (hunk_at direction (length bases) after)

abbrev pub IsInEitherOrder : (sizes bases : List ℕ) → Type 0
IsInEitherOrder sizes bases = IsInOrder Forward sizes bases ⊎ IsInOrder Backward sizes bases

-- Each hunk has a base, and no hunk ends after the last address.
pub record Fit (sizes bases : List ℕ) : Type 0 where
  pub one_base_each : length sizes ≡ length bases
  pub ends_within : AllEndWithin sizes bases

-- the lowest hunk that ends after the last address
pub record IsFirstPastEnd (sizes bases : List ℕ) (hunk : ℕ) : Type 0 where
  pub is_hunk : hunk < length bases
  pub ends_past : 2 ^ 32 < end_of sizes bases hunk
  pub lower_end_within : (lower : ℕ) → lower < hunk → EndsWithin sizes bases lower

-- the lowest of the earlier hunks that share an address with this one
pub record IsLeastEarlier (sizes bases : List ℕ) (earlier later : ℕ) : Type 0 where
  pub is_earlier : earlier < later
  pub share : ShareAddress sizes bases earlier later
  pub lower_apart : (lower : ℕ) → lower < earlier → ¬ ShareAddress sizes bases lower later

-- the lowest hunk that shares an address with an earlier one, and the lowest of these
pub record IsFirstOverlap (sizes bases : List ℕ) (earlier later : ℕ) : Type 0 where
  pub is_hunk : later < length bases
  pub least_earlier : IsLeastEarlier sizes bases earlier later
  pub lower_apart : (lower : ℕ) → lower < later → ApartFromEarlier sizes bases lower

-- The fault to return: first a wrong count of bases; then the lowest hunk that ends after the last
-- address; then the lowest hunk that shares an address with an earlier one.
abbrev pub IsFirstRefusal : (sizes bases : List ℕ) → PlaceFault → Type 0
IsFirstRefusal sizes bases WrongCount = length sizes ≢ length bases
IsFirstRefusal sizes bases (PastEnd hunk) =
    (length sizes ≡ length bases) × IsFirstPastEnd sizes bases hunk
IsFirstRefusal sizes bases (Overlap earlier later) =
    (length sizes ≡ length bases) ×
    AllEndWithin sizes bases ×
    IsFirstOverlap sizes bases earlier later
