-- What a taker of events that keeps its sites in a map returns, and the lists of events that it has
-- taken, after one more event.
use Rattle.std.proofs.Common.{◌≡◌, ℕ, ◌+◌, ◌<◌, ◌≤◌, ◌⊎◌, inl, inr, List, [], ◌∷◌, ◌++◌, Bool, true, false, Some, IsSome, Result, Ok, Err, ◌==◌, if◌then◌else◌, cond, ◌&&◌, ◌↔◌, refl, sym, subst, arith, eq-eqb}
use Rattle.std.proofs.lemmas.Bool.{cases_lt, eqb-true}
use Rattle.std.proofs.lemmas.Bool.Decides.{leb_tells}
use Rattle.hunk_words.specs.SiteRules.{apart, all_apart}
use Rattle.hunk_base.specs.Sites.{Meets, SharesByte, target_at}
use Rattle.hunk_words.specs.SiteContext.{Has, SameSites}
use Rattle.hunk_words.specs.Taker.{Judges, JudgesSite}
use Rattle.hunk_words.specs.EventValue.{EventValue, value_of_events, step}
use Rattle.hunk_words.specs.SiteContext.{SiteContext, context_after, context_with}
use Rattle.hunk_words.specs.declared.event.FileKind.{FileKind}
use Rattle.hunk_words.specs.declared.event.Event.{Event}
use Rattle.hunk_words.specs.declared.event.Event.TheVariants as event
use Rattle.hunk_base.specs.declared.sites.SiteRefusal.{SiteRefusal}
use Rattle.hunk_base.specs.declared.sites.SiteRefusal.TheVariants.{Outside, Overlap, OutOfMemory}

-- ---- one more event

pub value_of_events-append : (b : EventValue) (es : List Event) (e : Event) → value_of_events b (es ++ (e ∷ [])) ≡ step (value_of_events b es) e
value_of_events-append b [] e = refl
value_of_events-append b (d ∷ es) e = value_of_events-append (step b d) es e

pub context_after-append : (file : FileKind) (v : SiteContext) (es : List Event) (e : Event) → context_after file v (es ++ (e ∷ [])) ≡ context_with file (context_after file v es) e
context_after-append file v [] e = refl
context_after-append file v (d ∷ es) e = context_after-append file (context_with file v d) es e

-- ---- disjoint sites

apart-shares : (o p : ℕ) → SharesByte o p → apart o p ≡ false
apart-shares o p shares = grind (arith, leb_tells)

shares-apart : (o p : ℕ) → apart o p ≡ false → SharesByte o p
shares-apart o p e = grind (arith, leb_tells)

and-false : (b c : Bool) → c ≡ false → (b && c) ≡ false
and-false true c e = e
and-false false c e = refl

-- a site that shares a byte with one of these is not apart from them
all_apart-shares : (o p : ℕ) (seen : List ℕ) → Has seen p → SharesByte o p → all_apart o seen ≡ false
all_apart-shares o p [] h shares = elim h [ ]
all_apart-shares o p (q ∷ seen) (inl e) shares = let first : apart o q ≡ false = apart-shares o q (subst (SharesByte o) (sym e) shares) in rw first refl
all_apart-shares o p (q ∷ seen) (inr h) shares = and-false (apart o q) (all_apart o seen) (all_apart-shares o p seen h shares)

-- one of them
abbrev Shared : ℕ → List ℕ → Type 0
Shared o seen = (p : ℕ) × Has seen p × SharesByte o p

shared-more : (o q : ℕ) (seen : List ℕ) → Shared o seen → Shared o (q ∷ seen)
shared-more o q seen s = (s.0, inr s.1, s.2)

shared-first : (o q : ℕ) (seen : List ℕ) (b : Bool) → apart o q ≡ b → (b && all_apart o seen) ≡ false → (all_apart o seen ≡ false → Shared o seen) → Shared o (q ∷ seen)
shared-first o q seen true e h next = shared-more o q seen (next h)
shared-first o q seen false e h next = (q, inl refl, shares-apart o q e)

all_apart-shared : (o : ℕ) (seen : List ℕ) → all_apart o seen ≡ false → Shared o seen
all_apart-shared o [] h = let wrong : true ≡ false = h in cc
all_apart-shared o (q ∷ seen) h = shared-first o q seen (apart o q) refl h (all_apart-shared o seen)

-- ---- a map of sites

pub SameSites-none : {T : Type 0} → SameSites {T = T} [] []
SameSites-none = record { of_seen = λ o h. elim h [ ]; of_map = λ o h. let wrong : false ≡ true = h in cc }

meets-shared : {T : Type 0} (seen : List ℕ) (entries : List (ℕ × T)) (o : ℕ) → SameSites seen entries → Meets entries o → all_apart o seen ≡ false
meets-shared seen entries o same m = all_apart-shares o m.0 seen (same.of_map m.0 m.1) m.2

shared-meets : {T : Type 0} (seen : List ℕ) (entries : List (ℕ × T)) (o : ℕ) → SameSites seen entries → Shared o seen → Meets entries o
shared-meets seen entries o same s = (s.0, same.of_seen s.0 s.1, s.2)

not-false : (b : Bool) → (b ≡ false → ⊥) → b ≡ true
not-false true h = refl
not-false false h = absurd (h refl)

-- What a map of sites returns is what the rules for sites say.
pub judges-site : {T : Type 0} (limit : ℕ) (seen : List ℕ) (entries : List (ℕ × T)) (o : ℕ) (answer : Result (Unit {0}) SiteRefusal) → SameSites seen entries
    → ((answer ≡ Err Outside) ↔ (limit < o + 4)) → ((answer ≡ Err Overlap) ↔ ((o + 4 ≤ limit) × Meets entries o)) → JudgesSite limit seen o answer
judges-site limit seen entries o (Ok done) same outside overlap =
    let inside : o + 4 ≤ limit = go (cases_lt limit (o + 4)) in
    (inside, not-false (all_apart o seen) (λ e. let wrong : Ok done ≡ Err Overlap = overlap.1 (inside, shared-meets seen entries o same (all_apart-shared o seen e)) in cc))
  where
    go : (limit < o + 4) ⊎ (o + 4 ≤ limit) → o + 4 ≤ limit
    go (inl below) = let wrong : Ok done ≡ Err Outside = outside.1 below in cc
    go (inr above) = above
judges-site limit seen entries o (Err Outside) same outside overlap = outside.0 refl
judges-site limit seen entries o (Err Overlap) same outside overlap = let both = overlap.0 refl in (both.0, meets-shared seen entries o same both.1)
judges-site limit seen entries o (Err OutOfMemory) same outside overlap = tt

-- A site that was added is seen.
pub SameSites-more : {T : Type 0} (seen : List ℕ) (entries more : List (ℕ × T)) (o : ℕ) (target : T) → SameSites seen entries
    → ((other : ℕ) → target_at more other ≡ (if o == other then Some target else target_at entries other)) → SameSites (o ∷ seen) more
SameSites-more seen entries more o target same looks = record {
  of_seen = λ p h. rw (looks p) (seen_here p h);
  of_map = λ p h. found p (o == p) refl (rw (looks p) at h);
}
  where
    kept : (p : ℕ) (b : Bool) → IsSome (target_at entries p) → IsSome (cond b (Some target) (target_at entries p))
    kept p true h = refl
    kept p false h = h

    seen_here : (p : ℕ) → (o ≡ p) ⊎ Has seen p → IsSome (if o == p then Some target else target_at entries p)
    seen_here p (inl e) = let same_place : (o == p) ≡ true = eq-eqb o p e in rw same_place refl
    seen_here p (inr h) = kept p (o == p) (same.of_seen p h)

    found : (p : ℕ) (b : Bool) → (o == p) ≡ b → IsSome (cond b (Some target) (target_at entries p)) → (o ≡ p) ⊎ Has seen p
    found p true e h = inl (eqb-true o p e)
    found p false e h = inr (same.of_map p h)

-- ---- results for events that are not sites

-- What is not a site is not refused as one.
pub judges-other : (context : SiteContext) (e : Event) (d : Unit {0}) → ((o t : ℕ) → e ≡ event.Site o t → ⊥) → ((o : ℕ) → e ≡ event.RefSite o → ⊥) → Judges context e (Ok d)
judges-other context event.Unit d no_site no_reference = tt
judges-other context (event.Table n) d no_site no_reference = tt
judges-other context (event.HunkSize bits n) d no_site no_reference = tt
judges-other context event.HunkName d no_site no_reference = tt
judges-other context (event.Content c bits n) d no_site no_reference = tt
judges-other context (event.Word n) d no_site no_reference = tt
judges-other context (event.Site o t) d no_site no_reference = absurd (no_site o t refl)
judges-other context (event.Entry t) d no_site no_reference = tt
judges-other context (event.Count n) d no_site no_reference = tt
judges-other context (event.RefSite o) d no_site no_reference = absurd (no_reference o refl)
judges-other context event.Symbol d no_site no_reference = tt
judges-other context (event.Value v) d no_site no_reference = tt
judges-other context (event.Debug n) d no_site no_reference = tt
judges-other context event.HunkEnd d no_site no_reference = tt

-- An allocation that failed blames no event.
pub judges-memory : (context : SiteContext) (e : Event) → Judges context e (Err OutOfMemory)
judges-memory context event.Unit = tt
judges-memory context (event.Table n) = tt
judges-memory context (event.HunkSize bits n) = tt
judges-memory context event.HunkName = tt
judges-memory context (event.Content c bits n) = tt
judges-memory context (event.Word n) = tt
judges-memory context (event.Site o t) = tt
judges-memory context (event.Entry t) = tt
judges-memory context (event.Count n) = tt
judges-memory context (event.RefSite o) = tt
judges-memory context event.Symbol = tt
judges-memory context (event.Value v) = tt
judges-memory context (event.Debug n) = tt
judges-memory context event.HunkEnd = tt
