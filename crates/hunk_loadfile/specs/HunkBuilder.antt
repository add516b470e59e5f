-- What a builder of hunks stands for: the current hunk of the events that it has taken.
use Rattle.std.specs.Prelude.{◌≡◌, ℕ, ◌*◌, ◌<◌, ◌++◌, Bool, true, false, List, length, map, slice_index_or, Result, Ok, Err, MatchResult}
use Rattle.std.specs.declared.alloc.AllocError.{AllocError}
use Rattle.hunk_base.specs.OpenName.{Opens}
use Rattle.hunk_words.specs.EventValue.{Receiver as ToldReceiver, EventValue, step}
use Rattle.hunk_words.specs.EventValue.Receiver.{nothing_more, to_name, to_content, to_debug, to_symbol}
use Rattle.hunk_words.specs.PartialHunk.{goes_to_content}
use Rattle.hunk_words.specs.SiteContext.{SiteContext, context_with}
use Rattle.hunk_words.specs.declared.event.Event.{Event}
use Rattle.hunk_words.specs.declared.event.Event.TheVariants as event
use Rattle.hunk_words.specs.declared.event.FileKind.TheVariants.{Load}
use Rattle.hunk_loadfile.specs.LoadFile.{file_hunk}
use Rattle.hunk_loadfile.specs.LoadHunk.{FileHunk}
use Rattle.hunk_loadfile.specs.OpenHunk.{Shows}
use Rattle.hunk_loadfile.specs.declared.hunk_builder.HunkBuilder.{HunkBuilder}
use Rattle.hunk_loadfile.specs.declared.hunk_builder.Receiver.{Receiver}
use Rattle.hunk_loadfile.specs.declared.hunk_builder.Receiver.TheVariants.{Nothing, Content, Debug, Symbol}

-- The next word goes where the events say. The words of a hunk's name are not kept.
abbrev pub Receives : {A : Type 0} → Receiver A → ToldReceiver → Type 0
Receives Nothing nothing_more = Unit {0}
Receives Nothing to_name = Unit {0}
Receives Content to_content = Unit {0}
Receives Debug to_debug = Unit {0}
Receives (Symbol name) (to_symbol ws) = Opens name ws
Receives _ _ = ⊥

-- It holds the sizes in the header, how many hunks have ended, and what the events say of the current one.
pub record Builds {A : Type 0} (builder : HunkBuilder A) (told : EventValue) (watch : SiteContext) : Type 0 where
  pub sizes : builder.sizes.items ≡ told.sizes
  pub watched : watch.position.sizes ≡ map (λ s. s.1) told.sizes
  pub ended : builder.ended ≡ watch.position.ended
  pub hunk : Shows builder.hunk watch.position.limit watch.seen (goes_to_content told.receiver) told.hunk
  pub receiver : Receives builder.receiver told.receiver

-- It takes the event, or is left as it was.
abbrev pub Steps : {A E : Type 0} → HunkBuilder A → HunkBuilder A → Result (Unit {0}) E → Event → Type 0
Steps old new answer event = (told : EventValue) (watch : SiteContext) → Builds old told watch
    → MatchResult answer (λ done. Builds new (step told event) (context_with Load watch event)) (λ e. Builds new told watch)

-- ---- events

-- Those of a hunk, which leave it the current one, and those of the header.
abbrev pub IsWithinHunks : Event → Type 0
IsWithinHunks event.Unit = ⊥
IsWithinHunks (event.Entry type) = ⊥
IsWithinHunks (event.Count count) = ⊥
IsWithinHunks (event.RefSite offset) = ⊥
IsWithinHunks event.HunkEnd = ⊥
IsWithinHunks _ = Unit {0}

-- ---- a run of content

-- the current hunk has these longwords of content, too
abbrev pub with_content : EventValue → List ℕ → EventValue
with_content told ws = record told { hunk = record told.hunk { content = told.hunk.content ++ ws } }

-- It takes the longwords of a run if they are content, and is otherwise left as it was.
abbrev pub RunBuilt : {A : Type 0} → HunkBuilder A → EventValue → SiteContext → List ℕ → Result Bool AllocError → Type 0
RunBuilt new told watch ws (Ok true) = (told.receiver ≡ to_content) × Builds new (with_content told ws) watch
RunBuilt new told watch ws (Ok false) = Builds new told watch
RunBuilt new told watch ws (Err error) = Builds new told watch

-- ---- a hunk that ends

-- The hunk has what the events say of the current hunk, and its memory and size in the header, by which its
-- sites were judged.
pub record IsEnded (hunk : FileHunk) (told : EventValue) (watch : SiteContext) : Type 0 where
  pub header : ℕ × ℕ
  pub within : watch.position.ended < length told.sizes
  pub has_header : header ≡ slice_index_or told.sizes watch.position.ended header
  pub limit : watch.position.limit ≡ 4 * header.1
  pub value : hunk ≡ file_hunk header.0 header.1 told.hunk

-- It hands out the hunk that ends, or is left as it was.
abbrev pub Ends : {A E : Type 0} → HunkBuilder A → HunkBuilder A → Result FileHunk E → Type 0
Ends old new answer = (told : EventValue) (watch : SiteContext) → Builds old told watch
    → MatchResult answer (λ hunk. IsEnded hunk told watch × Builds new (step told event.HunkEnd) (context_with Load watch event.HunkEnd)) (λ e. Builds new told watch)
