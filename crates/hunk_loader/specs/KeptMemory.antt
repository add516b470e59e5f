-- How much a builder of an image keeps, counted in items.
use Rattle.std.specs.Prelude.{◌≡◌, ℕ, ◌+◌, ◌*◌, ◌≤◌, List, length, Option, Some, None, slice_index, sum_by}
use Rattle.hunk_words.specs.PartialHunk.{HunkSoFar}
use Rattle.hunk_words.specs.Taker.{sizes_told}
use Rattle.hunk_words.specs.declared.event.Event.{Event}
use Rattle.hunk_words.specs.declared.event.FileKind.TheVariants.{Load}
use Rattle.hunk_loader.specs.ImageBuilder.{BuilderState, StandsFor}
use Rattle.hunk_loader.specs.Places.{Placed as ArePlaced}

-- the bytes that are kept of hunks
abbrev pub current_bytes : Option (HunkSoFar ℕ) → ℕ
current_bytes None = 0
current_bytes (Some hunk) = length hunk.content

abbrev pub bytes_kept : BuilderState → ℕ
bytes_kept state = sum_by (λ h. length h.1) state.made + current_bytes state.current

-- The sites lie in the current hunk, and are at most one for each of its longwords.
pub record SitesOf (size : ℕ) (hunk : HunkSoFar ℕ) : Type 0 where
  pub limit : hunk.sites.limit ≡ 4 * size
  pub few : length hunk.sites.entries ≤ size

abbrev pub SitesInside : BuilderState → Option (HunkSoFar ℕ) → Type 0
SitesInside state None = Unit {0}
SitesInside state (Some hunk) = SitesOf (slice_index state.sizes state.ended) hunk

-- What is kept after events: one number for each size in the header, no more bytes than all sizes,
-- none if the hunks are not placed, and only the sites of the current hunk.
pub record IsBoundedBy (state : BuilderState) (told : List Event) : Type 0 where
  pub sizes : state.sizes ≡ sizes_told Load told
  pub bytes : bytes_kept state ≤ 4 * sum_by (λ n. n) state.sizes
  pub none : ¬ ArePlaced state.sizes state.bases → bytes_kept state ≡ 0
  pub sites : SitesInside state state.current

-- It has taken some events, and keeps no more than these need.
pub record IsBounded (state : BuilderState) : Type 0 where
  pub told : List Event
  pub stands : StandsFor state told
  pub frugal : IsBoundedBy state told
