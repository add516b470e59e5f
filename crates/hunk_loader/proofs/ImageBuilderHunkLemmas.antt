-- A builder of an image when a hunk begins, takes a site, or ends.
use Rattle.std.proofs.Common.{◌≡◌, ◌≢◌, ℕ, suc, ◌+◌, ◌*◌, ◌<◌, List, [], ◌∷◌, ◌++◌, length, map, Some, None, Result, Ok, Err, OnOk, OnErr, slice_index, refl, sym, ap, subst, ◌∙◌, arith}
use Rattle.std.proofs.lemmas.List.{length-append, length-map}
use Rattle.std.specs.BTreeMap.{insert_entry}
use Rattle.std.specs.Ordering.{nat_cmp}
use Rattle.std.specs.List.{zip}
use Rattle.hunk_words.specs.EventValue.{EventValue, step, on_last}
use Rattle.hunk_base.specs.Name.{bytes_of}
use Rattle.hunk_words.specs.SiteContext.{SameSites}
use Rattle.hunk_words.specs.PartialHunk.{HoldsSites, HunkSoFar, begun_hunk, hunk_with_site}
use Rattle.hunk_base.specs.Sites.{AreApart}
use Rattle.hunk_words.specs.Taker.{JudgesSite}
use Rattle.hunk_words.specs.Values.{Hunk, Part}
use Rattle.hunk_words.specs.SiteContext.{SiteContext}
use Rattle.hunk_words.specs.declared.event.Event.TheVariants as event
use Rattle.hunk_base.specs.declared.sites.SiteRefusal.{SiteRefusal}
use Rattle.hunk_words.proofs.TakerLemmas.{SameSites-none}
use Rattle.hunk_loadfile.specs.LoadFile.{with_sites}
use Rattle.hunk_loadfile.proofs.OpenHunkLemmas.{with_sites-append}
use Rattle.hunk_loadfile.specs.LoadHunk.{FileHunk}
use Rattle.hunk_loadfile.specs.Partial.{file_hunks}
use Rattle.hunk_loadfile.specs.Patching.{patched_bytes}
use Rattle.hunk_words.specs.declared.event.FileKind.TheVariants.{Load}
use Rattle.hunk_words.specs.SiteContext.{context_with}
use Rattle.hunk_loader.specs.ImageBuilder.{BuilderState, Holds, Loads, IsUnplaced, Shows, ShowsNone, ShowsOpen, TakesEvent, KeepsHunk, bytes_loaded}
use Rattle.hunk_loader.specs.Placing.{Decides, Settled}
use Rattle.hunk_loader.specs.Loading.{loaded, loaded_bytes}
use Rattle.hunk_loader.specs.declared.placing.Placing.{Placing}
use Rattle.hunk_loader.specs.declared.placing.Placing.TheVariants.{Unknown, Placed, Refused}
use Rattle.hunk_loader.proofs.ImageBuilderLemmas.{Holds-shows, same-current, same-part}

-- ---- a hunk that begins

-- a hunk of which nothing is known yet
abbrev pub begun_open : BuilderState → HunkSoFar ℕ
begun_open m = begun_hunk (4 * slice_index m.sizes m.ended)

abbrev pub with_begun : BuilderState → Placing → BuilderState
with_begun m p = record m { placing = p; current = Some (begun_open m) }

pub begun-is : (m : BuilderState) (p : Placing) (o : HunkSoFar ℕ) (size : ℕ) → o ≡ begun_hunk (4 * size) → size ≡ slice_index m.sizes m.ended → record m { placing = p; current = Some o } ≡ with_begun m p
begun-is m p o size is size_is = same-current (record m { placing = p }) o (begun_open m) (is ∙ ap (λ n. begun_hunk (4 * n)) size_is)

pub file_hunks-none : (ss : List (ℕ × ℕ)) → file_hunks ss [] ≡ []
file_hunks-none [] = refl
file_hunks-none (s ∷ ss) = refl

pub zip-none : (bases : List ℕ) (hs : List FileHunk) → hs ≡ [] → zip bases hs ≡ []
zip-none [] hs none = refl
zip-none (x ∷ bases) hs none = rw none refl

length-none : (hs : List Hunk) → length hs ≡ 0 → hs ≡ []
length-none [] is = refl
length-none (h ∷ hs) is = absurd (omega (arith, is))

loaded-none : (ss : List (ℕ × ℕ)) (bases : List ℕ) (hs : List Hunk) → length hs ≡ 0 → loaded (file_hunks ss hs) bases ≡ []
loaded-none ss bases hs none =
    let no_file_hunk : file_hunks ss hs ≡ [] = ap (λ l. file_hunks ss l) (length-none hs none) ∙ file_hunks-none ss in
    ap (λ l. map (λ placed. (placed.0, loaded_bytes bases placed.1)) l) (zip-none bases (file_hunks ss hs) no_file_hunk)

begin-decided : (p : Placing) (m n : BuilderState) (b c : EventValue) (hs : List Hunk) → n ≡ with_begun m p → c.sizes ≡ b.sizes → Decides m.sizes m.bases p → length hs ≡ m.ended → IsUnplaced m → Loads p n c hs
begin-decided Unknown m n b c hs is sizes d count l = elim d [ ]
begin-decided Placed m n b c hs is sizes d count l = rw is (d, l.made ∙ sym (loaded-none c.sizes m.bases hs (count ∙ l.ended)))
begin-decided (Refused fault) m n b c hs is sizes d count l = rw is (d, l.made)

begin-loads : (q p : Placing) (m n : BuilderState) (b c : EventValue) (hs : List Hunk) → n ≡ with_begun m p → c.sizes ≡ b.sizes → Settled q m.sizes m.bases p → length hs ≡ m.ended → Loads q m b hs → Loads p n c hs
begin-loads Unknown p m n b c hs is sizes d count l = begin-decided p m n b c hs is sizes d count l
begin-loads Placed p m n b c hs is sizes d count l = subst (λ x. Loads x n c hs) (sym d) (rw (is, sizes) l)
begin-loads (Refused fault) p m n b c hs is sizes d count l = subst (λ x. Loads x n c hs) (sym d) (rw is l)

Holds-begin : (m : BuilderState) (p : Placing) (b : EventValue) (w : SiteContext) (kind bits size : ℕ) → m.current ≡ None → m.ended < length m.sizes → Settled m.placing m.sizes m.bases p
    → Holds m b w → Holds (with_begun m p) (step b (event.Content kind bits size)) (context_with Load w (event.Content kind bits size))
Holds-begin m p b w kind bits size none within settled h =
    let s : ShowsNone b w = subst (λ o. Shows m.placing o b w) none h.shows in
    let limit : 4 * slice_index m.sizes m.ended ≡ 4 * slice_index w.position.sizes w.position.ended = rw (h.sizes, h.ended) refl in
    record {
      sizes = h.sizes;
      header = h.header;
      ended = h.ended;
      within = h.within;
      part = h.part;
      parts = h.parts;
      counted = h.counted;
      loads = begin-loads m.placing p m (with_begun m p) b (step b (event.Content kind bits size)) h.part.hunks refl refl settled (h.counted ∙ sym h.ended) h.loads;
      shows = record {
        words = refl;
        sites = ap (λ ss. with_sites [] ss) (sym s.sites);
        holds = record { same_limit = limit; same_sites = subst (λ seen. SameSites seen (begun_open m).sites.entries) (sym s.seen) SameSites-none };
        limit = refl;
        within = subst (λ n. n < length w.position.sizes) h.ended (subst (λ ss. m.ended < length ss) h.sizes within);
        apart = tt;
        content = λ placed. ap bytes_of (sym s.content);
        none = λ unplaced. refl;
        fits = omega arith;
      };
    }

pub TakesEvent-begin : (m n : BuilderState) (p : Placing) (kind bits size : ℕ) → m.current ≡ None → m.ended < length m.sizes → Settled m.placing m.sizes m.bases p → n ≡ with_begun m p → TakesEvent m n (Ok tt) (event.Content kind bits size)
TakesEvent-begin m n p kind bits size none within settled is = record {
  takes = λ b w holds. subst (λ q. Holds q (step b (event.Content kind bits size)) (context_with Load w (event.Content kind bits size))) (sym is) (Holds-begin m p b w kind bits size none within settled holds);
  refuses = λ b w holds. tt;
  judges = λ b w holds. tt;
  bases = ap (λ q. q.bases) is;
}

-- ---- sites

-- the hunk with one more site
abbrev pub with_one : HunkSoFar ℕ → ℕ → ℕ → HunkSoFar ℕ
with_one o at target = hunk_with_site o at target

Holds-site : (m : BuilderState) (b : EventValue) (w : SiteContext) (o : HunkSoFar ℕ) (at target : ℕ) → m.current ≡ Some o
    → HoldsSites w.position.limit (at ∷ w.seen) (with_one o at target) → AreApart (with_one o at target).sites
    → Holds m b w → Holds (record m { current = Some (with_one o at target) }) (step b (event.Site at target)) (context_with Load w (event.Site at target))
Holds-site m b w o at target current holds apart h =
    let s : ShowsOpen m.placing o b w = subst (λ q. Shows m.placing q b w) current h.shows in
    Holds-shows m (Some (with_one o at target)) b (step b (event.Site at target)) w (at ∷ w.seen) h (λ none. let wrong : Some o ≡ None = sym current ∙ none in cc) refl (same-part h.part b.parts h.parts) (record {
      words = s.words;
      sites = ap (λ es. insert_entry nat_cmp es at target) s.sites ∙ sym (with_sites-append [] b.hunk.tables.sites at target);
      holds = holds;
      limit = s.limit;
      within = s.within;
      apart = apart;
      content = s.content;
      none = s.none;
      fits = s.fits;
    })

pub TakesEvent-site : (m : BuilderState) (o n : HunkSoFar ℕ) (answer : Result (Unit {0}) SiteRefusal) (at target : ℕ) → m.current ≡ Some o
    → OnOk answer (n ≡ with_one o at target) → OnErr answer (n ≡ o) → (AreApart o.sites → AreApart n.sites)
    → ((limit : ℕ) (seen : List ℕ) → HoldsSites limit seen o → OnOk answer (HoldsSites limit (at ∷ seen) n))
    → ((limit : ℕ) (seen : List ℕ) → HoldsSites limit seen o → JudgesSite limit seen at answer)
    → TakesEvent m (record m { current = Some n }) answer (event.Site at target)
TakesEvent-site m o n answer at target current adds refused apart holds judges = record {
  takes = λ b w h. taken answer adds b w h (holds w.position.limit w.seen (shown b w h).holds) (apart (shown b w h).apart);
  refuses = λ b w h. left answer refused b w h;
  judges = λ b w h. judges w.position.limit w.seen (shown b w h).holds;
  bases = refl;
}
  where
    shown : (b : EventValue) (w : SiteContext) → Holds m b w → ShowsOpen m.placing o b w
    shown b w h = subst (λ q. Shows m.placing q b w) current h.shows

    taken : (r : Result (Unit {0}) SiteRefusal) → OnOk r (n ≡ with_one o at target) → (b : EventValue) (w : SiteContext) → Holds m b w → OnOk r (HoldsSites w.position.limit (at ∷ w.seen) n) → AreApart n.sites
        → OnOk r (Holds (record m { current = Some n }) (step b (event.Site at target)) (context_with Load w (event.Site at target)))
    taken (Ok d) is b w h holds apart = subst (λ q. Holds (record m { current = Some q }) (step b (event.Site at target)) (context_with Load w (event.Site at target))) (sym is)
        (Holds-site m b w o at target current (subst (λ q. HoldsSites w.position.limit (at ∷ w.seen) q) is holds) (subst (λ q. AreApart q.sites) is apart) h)
    taken (Err e) is b w h holds apart = tt

    left : (r : Result (Unit {0}) SiteRefusal) → OnErr r (n ≡ o) → (b : EventValue) (w : SiteContext) → Holds m b w → OnErr r (Holds (record m { current = Some n }) b w)
    left (Ok d) is b w h = tt
    left (Err e) is b w h = subst (λ q. Holds (record m { current = q }) b w) (current ∙ ap (λ q. Some q) (sym is)) h

-- ---- a hunk that ends

-- a hunk of this size, loaded
abbrev hunk_loaded : List ℕ → ℕ → Hunk → List ℕ
hunk_loaded bases size h = patched_bytes (4 * size) (bytes_of h.content) (with_sites [] h.tables.sites) (slice_index bases)

-- the hunks of a file, loaded at the first of these bases
abbrev pub loaded_at : List ℕ → List ℕ → List FileHunk → List (ℕ × List ℕ)
loaded_at all bases hunks = map (λ placed. (placed.0, loaded_bytes all placed.1)) (zip bases hunks)

loaded_at-append : (all bases : List ℕ) (ss : List (ℕ × ℕ)) (hs : List Hunk) (h : Hunk) → length hs < length ss → length hs < length bases
    → loaded_at all bases (file_hunks ss (hs ++ (h ∷ []))) ≡ loaded_at all bases (file_hunks ss hs) ++ ((slice_index bases (length hs), hunk_loaded all (slice_index (map (λ s. s.1) ss) (length hs)) h) ∷ [])
loaded_at-append all [] ss hs h sized based = absurd (omega (arith, based))
loaded_at-append all (x ∷ bases) [] hs h sized based = absurd (omega (arith, sized))
loaded_at-append all (x ∷ bases) (s ∷ ss) [] h sized based =
    ap (λ l. (x, hunk_loaded all s.1 h) ∷ map (λ placed. (placed.0, loaded_bytes all placed.1)) l) (zip-none bases (file_hunks ss []) (file_hunks-none ss))
loaded_at-append all (x ∷ bases) (s ∷ ss) (g ∷ hs) h sized based =
    ap (λ l. (x, hunk_loaded all s.1 g) ∷ l) (loaded_at-append all bases ss hs h (omega (arith, sized)) (omega (arith, based)))

-- with one more hunk that has ended
abbrev with_ended : BuilderState → List (ℕ × List ℕ) → BuilderState
with_ended m made = record m { made = made; current = None; ended = m.ended + 1 }

ended-part : (b : EventValue) (p : Part) → b.parts ≡ p ∷ [] → (step b event.HunkEnd).parts ≡ record p { hunks = p.hunks ++ (b.hunk ∷ []) } ∷ []
ended-part b p is = ap (λ ps. on_last (λ q. record q { hunks = q.hunks ++ (b.hunk ∷ []) }) ps) is

Holds-end : (m : BuilderState) (made : List (ℕ × List ℕ)) (b : EventValue) (w : SiteContext) (o : HunkSoFar ℕ) → m.current ≡ Some o → (h : Holds m b w)
    → Loads m.placing (with_ended m made) (step b event.HunkEnd) (h.part.hunks ++ (b.hunk ∷ []))
    → Holds (with_ended m made) (step b event.HunkEnd) (context_with Load w event.HunkEnd)
Holds-end m made b w o current h loads =
    let s : ShowsOpen m.placing o b w = subst (λ q. Shows m.placing q b w) current h.shows in
    record {
      sizes = h.sizes;
      header = h.header;
      ended = let more : m.ended + 1 ≡ suc w.position.ended = omega (arith, h.ended) in more;
      within = s.within;
      part = record h.part { hunks = h.part.hunks ++ (b.hunk ∷ []) };
      parts = ended-part b h.part h.parts;
      counted = omega (arith, h.counted, length-append h.part.hunks (b.hunk ∷ []));
      loads = loads;
      shows = record { content = refl; sites = refl; words = refl; seen = refl };
    }

end-unplaced : (p : Placing) (m : BuilderState) (b c : EventValue) (hs gs : List Hunk) → p ≢ Placed → m.current ≢ None → Loads p m b hs → Loads p (with_ended m m.made) c gs
end-unplaced Unknown m b c hs gs unplaced some l = absurd (some l.current)
end-unplaced Placed m b c hs gs unplaced some l = absurd (unplaced refl)
end-unplaced (Refused fault) m b c hs gs unplaced some l = l

end-placed : (p : Placing) (m : BuilderState) (made : List (ℕ × List ℕ)) (b : EventValue) (hs : List Hunk) → p ≡ Placed → Loads p m b hs
    → ((m.made ≡ loaded (file_hunks b.sizes hs) m.bases) → made ≡ loaded (file_hunks b.sizes (hs ++ (b.hunk ∷ []))) m.bases) → Loads p (with_ended m made) (step b event.HunkEnd) (hs ++ (b.hunk ∷ []))
end-placed Unknown m made b hs is l next = cc
end-placed Placed m made b hs is l next = (l.0, next l.1)
end-placed (Refused fault) m made b hs is l next = cc

bytes_loaded-current : (bases : List ℕ) (p : Placing) (o : HunkSoFar ℕ) (b : EventValue) (w : SiteContext) → p ≡ Placed → ShowsOpen p o b w → bytes_loaded bases o ≡ hunk_loaded bases (slice_index w.position.sizes w.position.ended) b.hunk
bytes_loaded-current bases p o b w placed s =
    let sites = s.sites in
    let content = s.content placed in
    let limit : o.sites.limit ≡ 4 * slice_index w.position.sizes w.position.ended = s.holds.same_limit ∙ s.limit in
    rw (sites, content, limit) refl

made-end : (m : BuilderState) (b : EventValue) (w : SiteContext) (o : HunkSoFar ℕ) (h : Holds m b w) → m.placing ≡ Placed → m.ended < length m.bases → ShowsOpen m.placing o b w
    → m.made ≡ loaded (file_hunks b.sizes h.part.hunks) m.bases
    → m.made ++ ((slice_index m.bases m.ended, bytes_loaded m.bases o) ∷ []) ≡ loaded (file_hunks b.sizes (h.part.hunks ++ (b.hunk ∷ []))) m.bases
made-end m b w o h placed based s is =
    let hs = h.part.hunks in
    let at : length hs ≡ m.ended = h.counted ∙ sym h.ended in
    let sized : length hs < length b.sizes = omega (arith, s.within, h.counted, ap length h.header, length-map b.sizes (λ s. s.1)) in
    let size : slice_index (map (λ s. s.1) b.sizes) (length hs) ≡ slice_index w.position.sizes w.position.ended = rw (h.header, h.counted) refl in
    ap (λ l. l ++ ((slice_index m.bases m.ended, bytes_loaded m.bases o) ∷ [])) is
    ∙ ap (λ bytes. loaded (file_hunks b.sizes hs) m.bases ++ ((slice_index m.bases m.ended, bytes) ∷ []))
    (bytes_loaded-current m.bases m.placing o b w placed s ∙ ap (λ n. hunk_loaded m.bases n b.hunk) (sym size))
    ∙ ap (λ i. loaded (file_hunks b.sizes hs) m.bases ++ ((slice_index m.bases i, hunk_loaded m.bases (slice_index (map (λ s. s.1) b.sizes) (length hs)) b.hunk) ∷ [])) (sym at)
    ∙ sym (loaded_at-append m.bases m.bases b.sizes hs b.hunk sized (omega (arith, at, based)))

pub TakesEvent-end-unplaced : (m n : BuilderState) (o : HunkSoFar ℕ) → m.placing ≢ Placed → m.current ≡ Some o → n ≡ with_ended m m.made → TakesEvent m n (Ok tt) event.HunkEnd
TakesEvent-end-unplaced m n o unplaced current is = record {
  takes = λ b w h. subst (λ q. Holds q (step b event.HunkEnd) (context_with Load w event.HunkEnd)) (sym is)
      (Holds-end m m.made b w o current h (end-unplaced m.placing m b (step b event.HunkEnd) h.part.hunks (h.part.hunks ++ (b.hunk ∷ [])) unplaced (λ none. let wrong : Some o ≡ None = sym current ∙ none in cc) h.loads));
  refuses = λ b w h. tt;
  judges = λ b w h. tt;
  bases = ap (λ q. q.bases) is;
}

pub TakesEvent-end-placed : (m n : BuilderState) → m.placing ≡ Placed → KeepsHunk m n → TakesEvent m n (Ok tt) event.HunkEnd
TakesEvent-end-placed m n placed keeps =
    let o = keeps.hunk in
    let made : List (ℕ × List ℕ) = m.made ++ ((slice_index m.bases m.ended, bytes_loaded m.bases o) ∷ []) in
    record {
      takes = λ b w h. subst (λ q. Holds q (step b event.HunkEnd) (context_with Load w event.HunkEnd)) (sym keeps.keeps)
          (Holds-end m made b w o keeps.current h
          (end-placed m.placing m made b h.part.hunks placed h.loads
          (made-end m b w o h placed keeps.based (subst (λ q. Shows m.placing q b w) keeps.current h.shows))));
      refuses = λ b w h. tt;
      judges = λ b w h. tt;
      bases = ap (λ q. q.bases) keeps.keeps;
    }
