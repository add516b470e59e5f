-- What a builder of load files holds, after one more event.
use Rattle.std.proofs.Common.{◌≡◌, ℕ, Bool, true, false, List, [], ◌∷◌, ◌++◌, Vec, Result, Ok, Err, OnOk, OnErr, sym, subst}
use Rattle.std.specs.declared.alloc.AllocError.{AllocError}
use Rattle.hunk_base.specs.declared.sites.SiteRefusal.{SiteRefusal}
use Rattle.hunk_words.specs.Event.{word_events}
use Rattle.hunk_words.specs.EventValue.{step, value_of_events, initial_load}
use Rattle.hunk_words.specs.SiteContext.{context_with, initial_context}
use Rattle.hunk_words.specs.Taker.{RunTaken, context_of}
use Rattle.hunk_words.specs.declared.event.Event.{Event}
use Rattle.hunk_words.specs.declared.event.Event.TheVariants.{HunkEnd, Site}
use Rattle.hunk_words.specs.declared.event.FileKind.TheVariants.{Load}
use Rattle.hunk_words.proofs.TakerLemmas.{value_of_events-append, context_after-append}
use Rattle.hunk_loadfile.specs.HunkBuilder.{Ends, IsWithinHunks, RunBuilt, Steps as HunkSteps, with_content}
use Rattle.hunk_loadfile.specs.LoadBuilder.{Holds, Steps, StandsFor}
use Rattle.hunk_loadfile.specs.LoadHunk.{FileHunk}
use Rattle.hunk_loadfile.specs.Partial.{HaveEnded}
use Rattle.hunk_loadfile.specs.declared.hunk_builder.HunkBuilder.{HunkBuilder}
use Rattle.hunk_loadfile.specs.declared.load_builder.LoadBuilder.{LoadBuilder}
use Rattle.hunk_loadfile.proofs.EndedLemmas.{HaveEnded-content, HaveEnded-end, HaveEnded-more}
use Rattle.hunk_loadfile.proofs.HunkBuilderLemmas.{context_of-run, value_of_events-run}

-- an event within a hunk
pub steps-within : {A E : Type 0} (b : LoadBuilder A) (k : HunkBuilder A) (answer : Result (Unit {0}) E) (e : Event) → OnOk answer (IsWithinHunks e) → HunkSteps b.current k answer e → Steps b (record b { current = k }) answer e
steps-within b k (Ok d) e within steps = λ told watch h. record { builds = steps told watch h.builds; ended = HaveEnded-more b.current.receiver e b.hunks.items told watch within h.builds.receiver h.ended }
steps-within b k (Err r) e within steps = λ told watch h. record { builds = steps told watch h.builds; ended = h.ended }

-- a site
pub steps-site : {A : Type 0} (b : LoadBuilder A) (k : HunkBuilder A) (answer : Result (Unit {0}) SiteRefusal) (o t : ℕ) → HunkSteps b.current k answer (Site o t) → Steps b (record b { current = k }) answer (Site o t)
steps-site b k (Ok d) o t steps = steps-within {E = SiteRefusal} b k (Ok d) (Site o t) tt steps
steps-site b k (Err r) o t steps = steps-within {E = SiteRefusal} b k (Err r) (Site o t) tt steps

-- the same event under another name
pub Steps-event : {A E : Type 0} (old new : LoadBuilder A) (answer : Result (Unit {0}) E) (e d : Event) → d ≡ e → Steps old new answer e → Steps old new answer d
Steps-event old new answer e d is steps = subst (λ f. Steps old new answer f) (sym is) steps

-- the end of a hunk
pub steps-end : {A : Type 0} (b : LoadBuilder A) (v : Vec FileHunk A) (k : HunkBuilder A) (hunk : FileHunk) → Ends {E = AllocError} b.current k (Ok hunk) → v.items ≡ b.hunks.items ++ (hunk ∷ [])
    → Steps {E = SiteRefusal} b (record { hunks = v; current = k }) (Ok tt) HunkEnd
steps-end b v k hunk ends pushed = λ told watch h.
    let e = ends told watch h.builds in
    record {
      builds = e.1;
      ended = subst (λ (hunks : List FileHunk). HaveEnded hunks (step told HunkEnd) (context_with Load watch HunkEnd)) (sym pushed) (HaveEnded-end hunk b.hunks.items told watch e.0 h.ended);
    }

-- ---- the events of a builder

StandsFor-next : {A : Type 0} (b : LoadBuilder A) (told : List Event) (e : Event) → Holds b (step (value_of_events initial_load told) e) (context_with Load (context_of Load told) e) → StandsFor b (told ++ (e ∷ []))
StandsFor-next b told e h =
    subst (λ q. Holds b q (context_of Load (told ++ (e ∷ [])))) (sym (value_of_events-append initial_load told e))
    (subst (Holds b (step (value_of_events initial_load told) e)) (sym (context_after-append Load initial_context told e)) h)

pub takes-next : {A E : Type 0} (old new : LoadBuilder A) (answer : Result (Unit {0}) E) (e : Event) (told : List Event) → Steps old new answer e → StandsFor old told → OnOk answer (StandsFor new (told ++ (e ∷ [])))
takes-next old new (Ok d) e told steps h = StandsFor-next new told e (steps _ _ h)
takes-next old new (Err r) e told steps h = tt

pub refuses-next : {A E : Type 0} (old new : LoadBuilder A) (answer : Result (Unit {0}) E) (e : Event) (told : List Event) → Steps old new answer e → StandsFor old told → OnErr answer (StandsFor new told)
refuses-next old new (Ok d) e told steps h = tt
refuses-next old new (Err r) e told steps h = steps _ _ h

-- a run of words
pub StandsFor-run : {A : Type 0} (b : LoadBuilder A) (k : HunkBuilder A) (told : List Event) (ws : List ℕ) (answer : Result Bool AllocError) → RunBuilt k (value_of_events initial_load told) (context_of Load told) ws answer → StandsFor b told
    → RunTaken (StandsFor (record b { current = k })) told ws answer
StandsFor-run b k told ws (Ok true) built h =
    let built_of = value_of_events initial_load told in
    subst (λ q. Holds (record b { current = k }) q (context_of Load (told ++ word_events ws))) (sym (value_of_events-run told ws built.0))
    (subst (Holds (record b { current = k }) (with_content built_of ws)) (sym (context_of-run told ws))
    (record { builds = built.1; ended = HaveEnded-content b.hunks.items built_of (context_of Load told) ws h.ended }))
StandsFor-run b k told ws (Ok false) built h = record { builds = built; ended = h.ended }
StandsFor-run b k told ws (Err e) built h = record { builds = built; ended = h.ended }
