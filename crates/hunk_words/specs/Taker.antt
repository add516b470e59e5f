-- What a taker returns for an event, by the events that it took before.
use Rattle.std.specs.Prelude.{◌≡◌, ℕ, ◌+◌, ◌<◌, ◌≤◌, Bool, true, false, List, ◌++◌, Option, Some, None, Result, Ok, Err}
use Rattle.std.specs.declared.alloc.AllocError.{AllocError}
use Rattle.hunk_words.specs.Event.{word_events}
use Rattle.hunk_words.specs.SiteRules.{all_apart}
use Rattle.hunk_words.specs.SiteContext.{SiteContext, context_after, initial_context}
use Rattle.hunk_words.specs.declared.event.FileKind.{FileKind}
use Rattle.hunk_words.specs.declared.event.Event.{Event}
use Rattle.hunk_words.specs.declared.event.Event.TheVariants.{Site, RefSite}
use Rattle.hunk_base.specs.declared.sites.SiteRefusal.{SiteRefusal}
use Rattle.hunk_base.specs.declared.sites.SiteRefusal.TheVariants.{Outside, Overlap, OutOfMemory}

-- the limit and the sites of the current hunk by the events, and the sizes in the header
abbrev pub context_of : FileKind → List Event → SiteContext
context_of file told = context_after file initial_context told

abbrev pub sizes_told : FileKind → List Event → List ℕ
sizes_told file told = (context_of file told).position.sizes

-- A site is taken if it lies inside the limit and apart from those seen, and is otherwise refused
-- by the first of these rules that it breaks, unless memory runs out.
abbrev pub JudgesSite : (limit : ℕ) (seen : List ℕ) (offset : ℕ) → Result (Unit {0}) SiteRefusal → Type 0
JudgesSite limit seen offset (Ok done) = (offset + 4 ≤ limit) × (all_apart offset seen ≡ true)
JudgesSite limit seen offset (Err Outside) = limit < offset + 4
JudgesSite limit seen offset (Err Overlap) = (offset + 4 ≤ limit) × (all_apart offset seen ≡ false)
JudgesSite limit seen offset (Err OutOfMemory) = Unit {0}

-- no refusal of a site
abbrev pub JudgesNone : Result (Unit {0}) SiteRefusal → Type 0
JudgesNone (Ok done) = Unit {0}
JudgesNone (Err Outside) = ⊥
JudgesNone (Err Overlap) = ⊥
JudgesNone (Err OutOfMemory) = Unit {0}

-- The sites of an event are judged exactly, and no other event is refused as a site.
abbrev pub Judges : SiteContext → Event → Result (Unit {0}) SiteRefusal → Type 0
Judges watch (Site offset target) answer = JudgesSite watch.position.limit watch.seen offset answer
Judges watch (RefSite offset) answer = JudgesSite watch.position.limit watch.seen offset answer
Judges watch event answer = JudgesNone answer

-- the result for the event of a number, if it has one
abbrev pub JudgesEvent : SiteContext → Option Event → Result (Unit {0}) SiteRefusal → Type 0
JudgesEvent watch None answer = JudgesNone answer
JudgesEvent watch (Some event) answer = Judges watch event answer

-- The words of a run were all taken, or none of them.
abbrev pub RunTaken : (List Event → Type 0) → List Event → List ℕ → Result Bool AllocError → Type 0
RunTaken Stands told ws (Ok true) = Stands (told ++ word_events ws)
RunTaken Stands told ws (Ok false) = Stands told
RunTaken Stands told ws (Err error) = Stands told
