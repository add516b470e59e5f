-- The site limit and the sites of the current hunk, from events alone: what a taker can know.
use Rattle.std.specs.Prelude.{◌≡◌, ℕ, suc, ◌*◌, ◌++◌, ◌⊎◌, List, [], ◌∷◌, IsSome, slice_index}
use Rattle.hunk_base.specs.Sites.{target_at}
use Rattle.hunk_words.specs.Kinds.{hunk_kind_of}
use Rattle.hunk_words.specs.declared.kinds.HunkKind.{HunkKind}
use Rattle.hunk_words.specs.declared.kinds.HunkKind.TheVariants.{Bss}
use Rattle.hunk_words.specs.declared.event.FileKind.{FileKind}
use Rattle.hunk_words.specs.declared.event.FileKind.TheVariants.{Object, Load}
use Rattle.hunk_words.specs.declared.event.Event.{Event}
use Rattle.hunk_words.specs.declared.event.Event.TheVariants.{HunkSize, Content, Site, RefSite, HunkEnd}

-- the sizes in the header, the number of hunks that have ended, and this hunk's site limit
pub record HunkPosition : Type 0 where
  pub sizes : List ℕ
  pub ended : ℕ
  pub limit : ℕ

pub record SiteContext : Type 0 where
  pub position : HunkPosition
  pub seen : List ℕ

abbrev pub content_limit : FileKind → ℕ → HunkKind → ℕ → ℕ
content_limit Load header c size = 4 * header
content_limit Object header Bss size = 0
content_limit Object header _ size = 4 * size

abbrev pub position_after : FileKind → HunkPosition → Event → HunkPosition
position_after file position (HunkSize bits size) = record position { sizes = position.sizes ++ (size ∷ []) }
position_after file position (Content number bits size) =
    record position { limit = content_limit file (slice_index position.sizes position.ended) (hunk_kind_of number) size }
position_after file position HunkEnd = record position { ended = suc position.ended }
position_after file position _ = position

abbrev pub seen_after_event : List ℕ → Event → List ℕ
seen_after_event seen (Site o t) = o ∷ seen
seen_after_event seen (RefSite o) = o ∷ seen
seen_after_event seen HunkEnd = []
seen_after_event seen _ = seen

-- the context after one more event
abbrev pub context_with : FileKind → SiteContext → Event → SiteContext
context_with file context event = record { position = position_after file context.position event; seen = seen_after_event context.seen event }

abbrev pub context_after : FileKind → SiteContext → List Event → SiteContext
context_after file context [] = context
context_after file context (event ∷ events) = context_after file (context_with file context event) events

-- before the first event
abbrev pub initial_context : SiteContext
initial_context = record { position = record { sizes = []; ended = 0; limit = 0 }; seen = [] }

-- ---- the offsets of the sites of events, and a map of sites

abbrev pub Has : List ℕ → ℕ → Type 0
Has [] o = ⊥
Has (p ∷ ps) o = (p ≡ o) ⊎ Has ps o

-- the map has a site at each of the offsets, and at no other
pub record SameSites {T : Type 0} (seen : List ℕ) (entries : List (ℕ × T)) : Type 0 where
  pub of_seen : (o : ℕ) → Has seen o → IsSome (target_at entries o)
  pub of_map : (o : ℕ) → IsSome (target_at entries o) → Has seen o
