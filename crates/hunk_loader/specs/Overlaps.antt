-- Where the hunks that are not empty stand, in a list: the extent of each, once.
use Rattle.std.specs.Prelude.{◌≡◌, ℕ, ◌<◌, ◌≤◌, ◌==◌, List, length, slice_index, slice_index_or}
use Rattle.std.specs.List.{All, Contains, IsDistinct}
use Rattle.std.specs.List.Sorted.{IsNonDecreasingBy}
use Rattle.hunk_loader.specs.Places.{end_of}
use Rattle.hunk_loader.specs.declared.overlaps.Extent.{Extent}

-- the extent of a hunk
abbrev pub extent_of : (sizes bases : List ℕ) → ℕ → Extent
extent_of sizes bases hunk = record { base = slice_index bases hunk; end = end_of sizes bases hunk; hunk = hunk }

-- the hunk is not empty, and stands there
pub record IsExtent (sizes bases : List ℕ) (hunk : ℕ) (extent : Extent) : Type 0 where
  pub some : 0 < slice_index sizes hunk
  pub is : extent ≡ extent_of sizes bases hunk

-- it is the extent of one of the first so many hunks
abbrev pub IsOneOf : (sizes bases : List ℕ) → ℕ → Extent → Type 0
IsOneOf sizes bases count extent = (extent.hunk < count) × IsExtent sizes bases extent.hunk extent

-- These are the extents of those of the first so many hunks that are not empty, each once.
pub record AreExtents (sizes bases : List ℕ) (count : ℕ) (extents : List Extent) : Type 0 where
  pub each : All (IsOneOf sizes bases count) extents
  pub every : (hunk : ℕ) → hunk < count → 0 < slice_index sizes hunk → Contains extents (extent_of sizes bases hunk)
  pub once : IsDistinct (λ one other. one.hunk == other.hunk) extents

-- those of all hunks, with rising bases
pub record AreRisingExtents (sizes bases : List ℕ) (extents : List Extent) : Type 0 where
  pub all : AreExtents sizes bases (length bases) extents
  pub rising : IsNonDecreasingBy (λ extent. extent.base) extents

-- Of the hunks below the limit, each stands after all those that come before it in the list.
abbrev pub AreInOrderBelow : List Extent → ℕ → Type 0
AreInOrderBelow extents limit =
    (before after : ℕ) (d : Extent) →
    before < after →
    after < length extents →
    (slice_index_or extents before d).hunk < limit →
    (slice_index_or extents after d).hunk < limit →
    (slice_index_or extents before d).end ≤ (slice_index_or extents after d).base
