-- How much a builder of an image keeps.
use Rattle.std.proofs.Common.{◌≡◌, ◌≢◌, ℕ, ◌+◌, ◌*◌, ◌≤◌, List, [], ◌∷◌, ◌++◌, length, map, Option, Some, None, Result, Ok, Err, slice_index, sum_by, refl, sym, ap, subst, ◌∙◌, arith}
use Rattle.std.proofs.lemmas.List.Sums.{sum_by-cons}
use Rattle.std.specs.declared.alloc.AllocError.{AllocError}
use Rattle.hunk_words.specs.PartialHunk.{HunkSoFar}
use Rattle.hunk_words.specs.Event.{word_events}
use Rattle.hunk_words.specs.EventValue.{EventValue, value_of_events, initial_load}
use Rattle.hunk_words.specs.Taker.{context_of}
use Rattle.hunk_words.specs.Values.{Hunk}
use Rattle.hunk_words.specs.SiteContext.{SiteContext}
use Rattle.hunk_base.specs.Name.{bytes_of}
use Rattle.hunk_words.specs.declared.event.Event.{Event}
use Rattle.hunk_words.specs.declared.event.FileKind.TheVariants.{Load}
use Rattle.hunk_base.specs.declared.sites.SiteRefusal.{SiteRefusal}
use Rattle.hunk_base.proofs.SitesLemmas.{AreApart-few}
use Rattle.hunk_loadfile.proofs.PatchingLemmas.{length-patched_bytes}
use Rattle.hunk_loadfile.specs.LoadFile.{file_hunk, with_sites}
use Rattle.hunk_loadfile.specs.Partial.{file_hunks}
use Rattle.hunk_loader.specs.KeptMemory.{IsBoundedBy, IsBounded, SitesInside, bytes_kept, current_bytes}
use Rattle.hunk_loader.specs.ImageBuilder.{BuilderState, Loads, Shows, StandsFor, TakesEvent, TakesRun, initial_builder}
use Rattle.hunk_loader.specs.Loading.{loaded_bytes}
use Rattle.hunk_loader.specs.Places.{Placed as ArePlaced}
use Rattle.hunk_loader.specs.declared.placing.Placing.{Placing}
use Rattle.hunk_loader.specs.declared.placing.Placing.TheVariants.{Unknown, Placed, Refused}
use Rattle.hunk_loader.proofs.ImageBuilderLemmas.{StandsFor-takes}
use Rattle.hunk_loader.proofs.ImageBuilderHunkLemmas.{loaded_at, file_hunks-none, zip-none}

-- ---- the hunks that have ended

abbrev made_bytes : List (ℕ × List ℕ) → ℕ
made_bytes made = sum_by (λ h. length h.1) made

abbrev all_sizes : List (ℕ × ℕ) → List ℕ
all_sizes ss = map (λ (s : ℕ × ℕ). s.1) ss

abbrev sum_of : List ℕ → ℕ
sum_of ns = sum_by (λ n. n) ns

made-none : (all bases : List ℕ) (ss : List (ℕ × ℕ)) → made_bytes (loaded_at all bases (file_hunks ss [])) ≡ 0
made-none all bases ss = ap (λ l. made_bytes (map (λ placed. (placed.0, loaded_bytes all placed.1)) l)) (zip-none bases (file_hunks ss []) (file_hunks-none ss))

length-loaded : (all : List ℕ) (bits size : ℕ) (h : Hunk) → length (loaded_bytes all (file_hunk bits size h)) ≡ 4 * size
length-loaded all bits size h = length-patched_bytes (4 * size) (bytes_of h.content) (with_sites [] h.tables.sites) (slice_index all)

-- Together with the size of the next one, they are no more than all.
made-bounded : (all bases : List ℕ) (ss : List (ℕ × ℕ)) (hs : List Hunk) (more : ℕ) → more ≤ 4 * slice_index (all_sizes ss) (length hs)
    → made_bytes (loaded_at all bases (file_hunks ss hs)) + more ≤ 4 * sum_of (all_sizes ss)
made-bounded all bases [] hs more fits =
    let none : made_bytes (loaded_at all bases []) ≡ 0 = ap (λ l. made_bytes (map (λ placed. (placed.0, loaded_bytes all placed.1)) l)) (zip-none bases [] refl) in
    let nothing : more ≤ 4 * 0 = fits in
    omega (arith, none, nothing)
made-bounded all bases (s ∷ ss) [] more fits =
    let none : made_bytes (loaded_at all bases (file_hunks (s ∷ ss) [])) ≡ 0 = made-none all bases (s ∷ ss) in
    let first : more ≤ 4 * s.1 = fits in
    let sum : sum_of (all_sizes (s ∷ ss)) ≡ s.1 + sum_of (all_sizes ss) = sum_by-cons (λ n. n) s.1 (all_sizes ss) in
    omega (arith, none, first, sum)
made-bounded all [] (s ∷ ss) (h ∷ hs) more fits =
    let rest : made_bytes (loaded_at all [] (file_hunks ss hs)) + more ≤ 4 * sum_of (all_sizes ss) = made-bounded all [] ss hs more fits in
    let sum : sum_of (all_sizes (s ∷ ss)) ≡ s.1 + sum_of (all_sizes ss) = sum_by-cons (λ n. n) s.1 (all_sizes ss) in
    let nothing : made_bytes (loaded_at all [] (file_hunks (s ∷ ss) (h ∷ hs))) ≡ 0 = refl in
    omega (arith, rest, sum, nothing)
made-bounded all (x ∷ bases) (s ∷ ss) (h ∷ hs) more fits =
    let rest : made_bytes (loaded_at all bases (file_hunks ss hs)) + more ≤ 4 * sum_of (all_sizes ss) = made-bounded all bases ss hs more fits in
    let sum : sum_of (all_sizes (s ∷ ss)) ≡ s.1 + sum_of (all_sizes ss) = sum_by-cons (λ n. n) s.1 (all_sizes ss) in
    let made : made_bytes (loaded_at all (x ∷ bases) (file_hunks (s ∷ ss) (h ∷ hs))) ≡ length (loaded_bytes all (file_hunk s.0 s.1 h)) + made_bytes (loaded_at all bases (file_hunks ss hs)) =
    sum_by-cons (λ (placed : ℕ × List ℕ). length placed.1) (x, loaded_bytes all (file_hunk s.0 s.1 h)) (loaded_at all bases (file_hunks ss hs)) in
    omega (arith, rest, sum, made, length-loaded all s.0 s.1 h)

-- ---- the current hunk

current-none : (p : Placing) (o : Option (HunkSoFar ℕ)) (b : EventValue) (w : SiteContext) → p ≢ Placed → Shows p o b w → current_bytes o ≡ 0
current-none p None b w unplaced s = refl
current-none p (Some o) b w unplaced s = ap length (s.none unplaced)

current-fits : (p : Placing) (o : Option (HunkSoFar ℕ)) (b : EventValue) (w : SiteContext) → Shows p o b w → current_bytes o ≤ 4 * slice_index w.position.sizes w.position.ended
current-fits p None b w s = omega arith
current-fits p (Some o) b w s =
    omega (arith, s.fits, s.holds.same_limit, s.limit)

sites-inside : (m : BuilderState) (p : Placing) (o : Option (HunkSoFar ℕ)) (b : EventValue) (w : SiteContext) → m.sizes ≡ w.position.sizes → m.ended ≡ w.position.ended → Shows p o b w → SitesInside m o
sites-inside m p None b w sizes ended s = tt
sites-inside m p (Some o) b w sizes ended s =
    let limit : o.sites.limit ≡ 4 * slice_index m.sizes m.ended = rw (sizes, ended) (s.holds.same_limit ∙ s.limit) in
    record { limit = limit; few = omega (arith, limit, AreApart-few o.sites s.apart) }

-- ---- both

kept-none : (p : Placing) (m : BuilderState) (b : EventValue) (w : SiteContext) (hs : List Hunk) → p ≢ Placed → Loads p m b hs → Shows p m.current b w → bytes_kept m ≡ 0
kept-none Unknown m b w hs unplaced l s =
    let made : made_bytes m.made ≡ 0 = ap (λ l. made_bytes l) l.made in
    let none : current_bytes m.current ≡ 0 = ap current_bytes l.current in
    omega (arith, made, none)
kept-none Placed m b w hs unplaced l s = absurd (unplaced refl)
kept-none (Refused fault) m b w hs unplaced l s =
    let made : made_bytes m.made ≡ 0 = ap (λ l. made_bytes l) l.1 in
    omega (arith, made, current-none (Refused fault) m.current b w unplaced s)

kept-bounded : (p : Placing) (m : BuilderState) (b : EventValue) (w : SiteContext) (hs : List Hunk) → m.sizes ≡ w.position.sizes → all_sizes b.sizes ≡ w.position.sizes → length hs ≡ w.position.ended → Loads p m b hs → Shows p m.current b w
    → bytes_kept m ≤ 4 * sum_of m.sizes
kept-bounded Unknown m b w hs sizes header count l s = let none = kept-none Unknown m b w hs (λ is. let wrong : Unknown ≡ Placed = is in cc) l s in omega (arith, none)
kept-bounded Placed m b w hs sizes header count l s =
    let fits : current_bytes m.current ≤ 4 * slice_index (all_sizes b.sizes) (length hs) = rw (header, count) (current-fits Placed m.current b w s) in
    rw (l.1, sizes) (subst (λ ns. made_bytes (loaded_at m.bases m.bases (file_hunks b.sizes hs)) + current_bytes m.current ≤ 4 * sum_of ns) header (made-bounded m.bases m.bases b.sizes hs (current_bytes m.current) fits))
kept-bounded (Refused fault) m b w hs sizes header count l s = let none = kept-none (Refused fault) m b w hs (λ is. let wrong : Refused fault ≡ Placed = is in cc) l s in omega (arith, none)

not-placed : (p : Placing) (m : BuilderState) (b : EventValue) (hs : List Hunk) → ¬ ArePlaced m.sizes m.bases → Loads p m b hs → p ≢ Placed
not-placed Unknown m b hs unplaced l = λ is. let wrong : Unknown ≡ Placed = is in cc
not-placed Placed m b hs unplaced l = λ is. unplaced l.0
not-placed (Refused fault) m b hs unplaced l = λ is. let wrong : Refused fault ≡ Placed = is in cc

pub frugal : (m : BuilderState) (told : List Event) → StandsFor m told → IsBoundedBy m told
frugal m told h =
    let b : EventValue = value_of_events initial_load told in
    let w : SiteContext = context_of Load told in
    record {
      sizes = h.sizes;
      bytes = kept-bounded m.placing m b w h.part.hunks h.sizes h.header h.counted h.loads h.shows;
      none = λ unplaced. kept-none m.placing m b w h.part.hunks (not-placed m.placing m b h.part.hunks unplaced h.loads) h.loads h.shows;
      sites = sites-inside m m.placing m.current b w h.sizes h.ended h.shows;
    }

-- ---- one more event

pub StandsFor-begun : (bases : List ℕ) → StandsFor (initial_builder bases) []
StandsFor-begun bases = record {
  sizes = refl;
  header = refl;
  ended = refl;
  within = omega arith;
  part = record { name = []; hunks = [] };
  parts = refl;
  counted = refl;
  loads = record { ended = refl; made = refl; current = refl };
  shows = record { content = refl; sites = refl; words = refl; seen = refl };
}

bounded : (m : BuilderState) (told : List Event) → StandsFor m told → IsBounded m
bounded m told h = record { told = told; stands = h; frugal = frugal m told h }

pub IsBounded-begun : (bases : List ℕ) → IsBounded (initial_builder bases)
IsBounded-begun bases = bounded (initial_builder bases) [] (StandsFor-begun bases)

-- whether it took the event or returned an error
pub IsBounded-takes : (m n : BuilderState) (answer : Result (Unit {0}) SiteRefusal) (e : Event) → TakesEvent m n answer e → IsBounded m → IsBounded n
IsBounded-takes m n (Ok d) e t k = bounded n (k.told ++ (e ∷ [])) (StandsFor-takes m n (Ok d) e t k.told k.stands)
IsBounded-takes m n (Err r) e t k = bounded n k.told (t.refuses (value_of_events initial_load k.told) (context_of Load k.told) k.stands)

-- whether it took the words of a run or returned an error
pub IsBounded-run : (m n : BuilderState) (answer : Result (Unit {0}) AllocError) (us : List ℕ) → TakesRun m n answer us → IsBounded m → IsBounded n
IsBounded-run m n (Ok d) us t k = bounded n (k.told ++ word_events us) (t.takes k.told k.stands)
IsBounded-run m n (Err e) us t k = subst IsBounded (sym t.refused) k
