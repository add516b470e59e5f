-- Hunks in order, as far as a loop has come; and hunks in order share no address.
use Rattle.std.proofs.Common.{◌≡◌, ◌⊎◌, inl, inr, ℕ, ◌-◌, ◌<◌, ◌≤◌, List, length, subst, arith, slice_index}
use Rattle.hunk_loader.specs.Places.{AllApart, IsInEitherOrder, IsInOrder, ShareAddress, Takes, end_of}
use Rattle.hunk_loader.specs.declared.places.Direction.{Direction}
use Rattle.hunk_loader.specs.declared.places.Direction.TheVariants.{Forward, Backward}

-- The hunks that were looked at are in order, and `free` is the end of the last nonempty one.
pub record OrderTo (at : ℕ → ℕ) (sizes bases : List ℕ) (count free : ℕ) : Type 0 where
  pub ordered : (earlier later : ℕ) → earlier < later → later < count → 0 < slice_index sizes (at earlier) → 0 < slice_index sizes (at later) → end_of sizes bases (at earlier) ≤ slice_index bases (at later)
  pub behind : (earlier : ℕ) → earlier < count → 0 < slice_index sizes (at earlier) → end_of sizes bases (at earlier) ≤ free
  pub reached : (free ≡ 0) ⊎ ((earlier : ℕ) × (earlier < count) × (0 < slice_index sizes (at earlier)) × (free ≡ end_of sizes bases (at earlier)))

-- ---- apart

-- a hunk that takes an address is not empty
some : (sizes bases : List ℕ) (hunk address : ℕ) → Takes sizes bases hunk address → 0 < slice_index sizes hunk
some sizes bases hunk address takes = omega (arith, takes.from_base, takes.before_end)

apart : (sizes bases : List ℕ) (one other : ℕ) → (0 < slice_index sizes one → 0 < slice_index sizes other → end_of sizes bases one ≤ slice_index bases other) → ShareAddress sizes bases one other → ⊥
apart sizes bases one other order share =
    let after = order (some sizes bases one share.address share.in_one) (some sizes bases other share.address share.in_other) in
    omega (arith, after, share.in_one.before_end, share.in_other.from_base)

swapped : (sizes bases : List ℕ) (one other : ℕ) → ShareAddress sizes bases one other → ShareAddress sizes bases other one
swapped sizes bases one other share = record { address = share.address; in_one = share.in_other; in_other = share.in_one }

pub IsInOrder-apart : (direction : Direction) (sizes bases : List ℕ) → IsInOrder direction sizes bases → AllApart sizes bases
IsInOrder-apart Forward sizes bases order later is_hunk earlier below share = apart sizes bases earlier later (order earlier later below is_hunk) share
IsInOrder-apart Backward sizes bases order later is_hunk earlier below share =
    let n = length bases in
    let first : n - 1 - (n - 1 - later) ≡ later = omega arith in
    let second : n - 1 - (n - 1 - earlier) ≡ earlier = omega arith in
    let found = order (n - 1 - later) (n - 1 - earlier) (omega arith) (omega arith) in
    apart sizes bases later earlier
    (subst (λ k. 0 < slice_index sizes later → 0 < slice_index sizes k → end_of sizes bases later ≤ slice_index bases k) second
    (subst (λ k. 0 < slice_index sizes k → 0 < slice_index sizes (n - 1 - (n - 1 - earlier)) → end_of sizes bases k ≤ slice_index bases (n - 1 - (n - 1 - earlier))) first found))
    (swapped sizes bases earlier later share)

pub IsInEitherOrder-apart : (sizes bases : List ℕ) → IsInEitherOrder sizes bases → AllApart sizes bases
IsInEitherOrder-apart sizes bases order = elim order [ inl rising ↦ IsInOrder-apart Forward sizes bases rising | inr falling ↦ IsInOrder-apart Backward sizes bases falling ]
