-- Each kind of event goes to its function. It has been taken, or an error was returned.
use Rattle.std.proofs.Common.{◌≡◌, ◌^◌, ◌<◌, List, [], ◌∷◌, ◌++◌, Result, OnOk, length, refl, inl, inr}
use Rattle.hunk_base.specs.declared.sites.SiteRefusal.{SiteRefusal}
use Rattle.hunk_words.specs.declared.event.Event.{Event}
use Rattle.hunk_words.specs.declared.event.FileKind.TheVariants.{Load}
use Rattle.hunk_words.specs.Taker.{Judges, context_of}
use Rattle.hunk_loader.specs.ImageBuilder.{BuilderState, StandsFor, TakesEvent}
use Rattle.hunk_loader.proofs.ImageBuilderLemmas.{StandsFor-takes, TakesEvent-table, TakesEvent-passed, passes-name, passes-symbol, passes-entry, passes-value, passes-count, passes-debug}
use Rattle.hunk_loader.proofs.image_builder.ImageBuilderTaker.take.Goals as goal

-- what is taken of an event, which is known to be this one
takes : (m n : BuilderState) (answer : Result (Unit {0}) SiteRefusal) (event is : Event) → event ≡ is → TakesEvent m n answer is
    → (told : List Event) → StandsFor m told → length told < 2 ^ 29 → OnOk answer (StandsFor n (told ++ (event ∷ [])))
takes m n answer event is same t = λ told stands few. rw same (StandsFor-takes m n answer is t told stands)

judges : (m n : BuilderState) (answer : Result (Unit {0}) SiteRefusal) (event is : Event) → event ≡ is → TakesEvent m n answer is
    → (told : List Event) → StandsFor m told → length told < 2 ^ 29 → Judges (context_of Load told) event answer
judges m n answer event is same t = λ told stands few. rw same (t.judges _ _ stands)

pub returns-in-Table-clause-takes : goal.returns-in-Table-clause-takes
returns-in-Table-clause-takes g c = takes _ _ _ _ _ c.in-Table.is (TakesEvent-table _ _ c.in-Table.field-0 refl)

pub returns-in-HunkSize-clause-takes : goal.returns-in-HunkSize-clause-takes
returns-in-HunkSize-clause-takes g c = takes _ _ _ _ _ c.in-HunkSize.is c.add_size.ensures

pub returns-in-HunkSize-clause-judges : goal.returns-in-HunkSize-clause-judges
returns-in-HunkSize-clause-judges g c = judges _ _ _ _ _ c.in-HunkSize.is c.add_size.ensures

pub returns-in-Content-clause-takes : goal.returns-in-Content-clause-takes
returns-in-Content-clause-takes g c = takes _ _ _ _ _ c.in-Content.is c.begin_hunk.ensures

pub returns-in-Content-clause-judges : goal.returns-in-Content-clause-judges
returns-in-Content-clause-judges g c = judges _ _ _ _ _ c.in-Content.is c.begin_hunk.ensures

pub returns-in-Word-clause-takes : goal.returns-in-Word-clause-takes
returns-in-Word-clause-takes g c = takes _ _ _ _ _ c.in-Word.is c.add_word.ensures

pub returns-in-Word-clause-judges : goal.returns-in-Word-clause-judges
returns-in-Word-clause-judges g c = judges _ _ _ _ _ c.in-Word.is c.add_word.ensures

pub returns-in-Site-clause-takes : goal.returns-in-Site-clause-takes
returns-in-Site-clause-takes g c = takes _ _ _ _ _ c.in-Site.is c.add_site.ensures

pub returns-in-Site-clause-judges : goal.returns-in-Site-clause-judges
returns-in-Site-clause-judges g c = judges _ _ _ _ _ c.in-Site.is c.add_site.ensures

pub returns-in-HunkEnd-clause-takes : goal.returns-in-HunkEnd-clause-takes
returns-in-HunkEnd-clause-takes g c = takes _ _ _ _ _ c.in-HunkEnd.is c.end_hunk.ensures

pub returns-in-HunkEnd-clause-judges : goal.returns-in-HunkEnd-clause-judges
returns-in-HunkEnd-clause-judges g c = judges _ _ _ _ _ c.in-HunkEnd.is c.end_hunk.ensures

pub returns-in-HunkName-clause-takes : goal.returns-in-HunkName-clause-takes
returns-in-HunkName-clause-takes g c = elim c.in-HunkName.is [
  | inl is ↦ takes _ _ _ _ _ is (TakesEvent-passed _ _ _ passes-name c.pass.ensures)
  | inr (inl is) ↦ takes _ _ _ _ _ is (TakesEvent-passed _ _ _ passes-symbol c.pass.ensures)
  | inr (inr (inl (t, is))) ↦ takes _ _ _ _ _ is (TakesEvent-passed _ _ _ (passes-entry t) c.pass.ensures)
  | inr (inr (inr (inl (v, is)))) ↦ takes _ _ _ _ _ is (TakesEvent-passed _ _ _ (passes-value v) c.pass.ensures)
  | inr (inr (inr (inr (inl (n, is))))) ↦ takes _ _ _ _ _ is (TakesEvent-passed _ _ _ (passes-count n) c.pass.ensures)
  | inr (inr (inr (inr (inr (n, is))))) ↦ takes _ _ _ _ _ is (TakesEvent-passed _ _ _ (passes-debug n) c.pass.ensures)
]
