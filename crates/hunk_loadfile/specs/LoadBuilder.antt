-- What a builder of load files stands for: the events that it has taken.
use Rattle.std.specs.Prelude.{List, Result, MatchResult}
use Rattle.hunk_words.specs.EventValue.{EventValue, value_of_events, initial_load, step}
use Rattle.hunk_words.specs.SiteContext.{SiteContext, context_with}
use Rattle.hunk_words.specs.Taker.{context_of}
use Rattle.hunk_words.specs.declared.event.Event.{Event}
use Rattle.hunk_words.specs.declared.event.FileKind.TheVariants.{Load}
use Rattle.hunk_loadfile.specs.HunkBuilder.{Builds}
use Rattle.hunk_loadfile.specs.Partial.{HaveEnded}
use Rattle.hunk_loadfile.specs.declared.load_builder.LoadBuilder.{LoadBuilder}

-- The builder holds what the events build, and the sites that were seen.
pub record Holds {A : Type 0} (builder : LoadBuilder A) (told : EventValue) (watch : SiteContext) : Type 0 where
  pub builds : Builds builder.current told watch
  pub ended : HaveEnded builder.hunks.items told watch

-- It takes the event, or is left as it was.
abbrev pub Steps : {A E : Type 0} → LoadBuilder A → LoadBuilder A → Result (Unit {0}) E → Event → Type 0
Steps old new answer event = (told : EventValue) (watch : SiteContext) → Holds old told watch
    → MatchResult answer (λ done. Holds new (step told event) (context_with Load watch event)) (λ e. Holds new told watch)

abbrev pub StandsFor : {A : Type 0} → LoadBuilder A → List Event → Type 0
StandsFor builder told = Holds builder (value_of_events initial_load told) (context_of Load told)
