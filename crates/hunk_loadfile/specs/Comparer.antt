-- What a comparer stands for: how the hunks of the events that it has taken compare with those of a first file.
use Rattle.std.specs.Prelude.{ℕ, List, [], slice_get, Option, Some, None, Result, MatchResult}
use Rattle.hunk_base.specs.Name.{bytes_of}
use Rattle.hunk_words.specs.EventValue.{EventValue, value_of_events, initial_load, step}
use Rattle.hunk_words.specs.SiteContext.{SiteContext, context_with}
use Rattle.hunk_words.specs.Taker.{context_of}
use Rattle.hunk_words.specs.declared.event.Event.{Event}
use Rattle.hunk_words.specs.declared.event.FileKind.TheVariants.{Load}
use Rattle.hunk_loadfile.specs.Comparison.{HasFound}
use Rattle.hunk_loadfile.specs.ContentComparer.{Follows}
use Rattle.hunk_loadfile.specs.HunkBuilder.{Builds}
use Rattle.hunk_loadfile.specs.LoadHunk.{FileHunk}
use Rattle.hunk_loadfile.specs.Partial.{HaveEnded}
use Rattle.hunk_loadfile.specs.WrittenForm.{written_in}
use Rattle.hunk_loadfile.specs.declared.comparer.Comparer.{Comparer}
use Rattle.hunk_loadfile.specs.declared.load_form.LoadForm.TheVariants.{Plain}

-- the content of the hunk, nothing if there is none
abbrev pub content_of : Option FileHunk → List ℕ
content_of (Some hunk) = hunk.content
content_of None = []

abbrev pub content_at : List FileHunk → ℕ → List ℕ
content_at hunks number = content_of (slice_get hunks number)

-- what the events build, but for the content of the current hunk
abbrev pub without_content : EventValue → EventValue
without_content told = record told { hunk = record told.hunk { content = [] } }

-- It holds what the events build, but for the contents, and what is found in the hunks that have ended.
pub record Compares {A : Type 0} (comparer : Comparer A) (told : EventValue) (watch : SiteContext) : Type 0 where
  pub hunks : List FileHunk
  pub ended : HaveEnded hunks told watch
  pub builds : Builds comparer.current (without_content told) watch
  pub content : Follows comparer.content (content_at comparer.first watch.position.ended) (bytes_of told.hunk.content)
  pub found : HasFound comparer.found comparer.first hunks

-- It takes the event, or is left as it was.
abbrev pub Steps : {A E : Type 0} → Comparer A → Comparer A → Result (Unit {0}) E → Event → Type 0
Steps old new answer event = (told : EventValue) (watch : SiteContext) → Compares old told watch
    → MatchResult answer (λ done. Compares new (step told event) (context_with Load watch event)) (λ e. Compares new told watch)

abbrev pub StandsFor : {A : Type 0} → Comparer A → List Event → Type 0
StandsFor comparer told = Compares comparer (value_of_events initial_load told) (context_of Load told)

-- the first file as it is written, by which it is known from others
abbrev pub words_of : List FileHunk → List ℕ
words_of hunks = written_in Plain hunks
