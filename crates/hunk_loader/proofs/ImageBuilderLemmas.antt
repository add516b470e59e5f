-- A builder of an image, after one more event.
use Rattle.std.proofs.Common.{◌≡◌, ◌≢◌, ℕ, zero, suc, ◌<◌, ◌≤◌, Bool, true, false, List, [], ◌∷◌, ◌++◌, length, map, Option, Some, None, Result, Ok, Err, OnOk, OnErr, refl, sym, ap, subst, ◌∙◌, append-nil, append_assoc, if◌then◌else◌, arith}
use Rattle.std.proofs.lemmas.List.{length-append, map-append}
use Rattle.std.specs.List.{All}
use Rattle.std.specs.declared.alloc.AllocError.{AllocError}
use Rattle.byteorder.specs.Endian.{big_bytes}
use Rattle.hunk_base.specs.Longwords.{IsWhole, longwords}
use Rattle.hunk_base.proofs.LongwordsByteLemmas.{bytes_of-longwords}
use Rattle.hunk_words.specs.EventValue.{EventValue, Receiver, value_of_events, step, word_to, value_to, count_to, initial_load}
use Rattle.hunk_words.specs.EventValue.Receiver.{nothing_more, to_unit_name, to_name, to_content, to_debug, to_symbol, to_entry}
use Rattle.hunk_base.specs.Name.{bytes_of}
use Rattle.hunk_words.specs.Event.{word_events}
use Rattle.hunk_words.specs.PartialHunk.{HunkSoFar, goes_to_content, hunk_with_bytes, hunk_with_word}
use Rattle.hunk_words.specs.Taker.{Judges, context_of}
use Rattle.hunk_words.specs.Values.{Hunk, Part}
use Rattle.hunk_words.specs.SiteContext.{SiteContext, initial_context}
use Rattle.hunk_words.specs.declared.event.Event.{Event}
use Rattle.hunk_words.specs.declared.event.Event.TheVariants as event
use Rattle.hunk_words.specs.declared.event.FileKind.TheVariants.{Load}
use Rattle.hunk_base.specs.declared.sites.SiteRefusal.{SiteRefusal}
use Rattle.hunk_base.specs.declared.sites.SiteRefusal.TheVariants.{OutOfMemory}
use Rattle.hunk_words.proofs.PartialHunkLemmas.{bytes_of-append, hunk_with_bytes-more, hunk_with_bytes-none, hunk_with_word-dropped, hunk_with_word-kept, receiver-content}
use Rattle.hunk_words.proofs.TakerLemmas.{value_of_events-append, context_after-append, judges-memory}
use Rattle.hunk_loadfile.specs.LoadFile.{with_sites}
use Rattle.hunk_words.specs.SiteContext.{context_with}
use Rattle.hunk_loader.specs.ImageBuilder.{BuilderState, Holds, Loads, Shows, ShowsNone, ShowsOpen, StandsFor, TakesEvent, TakesRun, passed}
use Rattle.hunk_loader.specs.declared.placing.Placing.{Placing}
use Rattle.hunk_loader.specs.declared.placing.Placing.TheVariants.{Unknown, Placed, Refused}

-- ---- the same, with a current hunk

pub with-current : (m : BuilderState) (o : Option (HunkSoFar ℕ)) → m.current ≡ o → record m { current = o } ≡ m
with-current m o is = ap (λ q. record m { current = q }) (sym is)

pub same-current : (m : BuilderState) (p q : HunkSoFar ℕ) → p ≡ q → record m { current = Some p } ≡ record m { current = Some q }
same-current m p q is = ap (λ o. record m { current = Some o }) is

-- ---- events that were taken, and one more

pub StandsFor-takes : (m n : BuilderState) (answer : Result (Unit {0}) SiteRefusal) (e : Event) → TakesEvent m n answer e → (told : List Event) → StandsFor m told → OnOk answer (StandsFor n (told ++ (e ∷ [])))
StandsFor-takes m n (Ok d) e t told stands =
    subst (λ b. Holds n b (context_of Load (told ++ (e ∷ [])))) (sym (value_of_events-append initial_load told e))
    (subst (λ w. Holds n (step (value_of_events initial_load told) e) w) (sym (context_after-append Load initial_context told e)) (t.takes (value_of_events initial_load told) (context_of Load told) stands))
StandsFor-takes m n (Err r) e t told stands = tt

-- ---- an error that blames no event

pub TakesEvent-refused : (m n : BuilderState) (e : Event) → n ≡ m → TakesEvent m n (Err OutOfMemory) e
TakesEvent-refused m n e same = record {
  takes = λ b w holds. tt;
  refuses = λ b w holds. subst (λ q. Holds q b w) (sym same) holds;
  judges = λ b w holds. judges-memory w e;
  bases = ap (λ q. q.bases) same;
}

-- ---- what is built, the same for an image

-- one part, of the same hunks
pub record SamePart (ps : List Part) (p : Part) : Type 0 where
  pub part : Part
  pub is : ps ≡ part ∷ []
  pub hunks : part.hunks ≡ p.hunks

pub record SameShown (b c : EventValue) : Type 0 where
  pub sizes : c.sizes ≡ b.sizes
  pub parts : (p : Part) → b.parts ≡ p ∷ [] → SamePart c.parts p
  pub content : c.hunk.content ≡ b.hunk.content
  pub sites : c.hunk.tables.sites ≡ b.hunk.tables.sites

pub same-part : (p : Part) (ps : List Part) → ps ≡ p ∷ [] → SamePart ps p
same-part p ps is = record { part = p; is = is; hunks = refl }

Loads-same : (p : Placing) (m n : BuilderState) (b c : EventValue) (hs gs : List Hunk) → n ≡ record m { current = n.current } → (m.current ≡ None → n.current ≡ None) → c.sizes ≡ b.sizes → gs ≡ hs → Loads p m b hs → Loads p n c gs
Loads-same Unknown m n b c hs gs is none sizes hunks l = record { ended = ap (λ q. q.ended) is ∙ l.ended; made = ap (λ q. q.made) is ∙ l.made; current = none l.current }
Loads-same Placed m n b c hs gs is none sizes hunks l = rw (is, sizes, hunks) l
Loads-same (Refused fault) m n b c hs gs is none sizes hunks l = rw is l

-- the current hunk, if words go past it or go where they went
Shows-same : (p : Placing) (o : Option (HunkSoFar ℕ)) (b c : EventValue) (w : SiteContext) → SameShown b c → goes_to_content c.receiver ≡ goes_to_content b.receiver → Shows p o b w → Shows p o c w
Shows-same p None b c w same words s = record { content = same.content ∙ s.content; sites = same.sites ∙ s.sites; words = words ∙ s.words; seen = s.seen }
Shows-same p (Some o) b c w same words s = record {
  words = s.words ∙ sym words;
  sites = s.sites ∙ ap (λ ss. with_sites [] ss) (sym same.sites);
  limit = s.limit;
  within = s.within;
  holds = s.holds;
  apart = s.apart;
  content = λ is. s.content is ∙ ap bytes_of (sym same.content);
  none = s.none;
  fits = s.fits;
}

Shows-passed : (p : Placing) (o : Option (HunkSoFar ℕ)) (b c : EventValue) (w : SiteContext) → SameShown b c → goes_to_content c.receiver ≡ false → Shows p o b w → Shows p (passed o) c w
Shows-passed p None b c w same words s = record { content = same.content ∙ s.content; sites = same.sites ∙ s.sites; words = words; seen = s.seen }
Shows-passed p (Some o) b c w same words s = record {
  words = sym words;
  sites = s.sites ∙ ap (λ ss. with_sites [] ss) (sym same.sites);
  limit = s.limit;
  within = s.within;
  holds = record { same_limit = s.holds.same_limit; same_sites = s.holds.same_sites };
  apart = s.apart;
  content = λ is. s.content is ∙ ap bytes_of (sym same.content);
  none = s.none;
  fits = s.fits;
}

-- If the hunks that have ended are as they were, only the current hunk is left to show.
pub Holds-shows : (m : BuilderState) (o : Option (HunkSoFar ℕ)) (b c : EventValue) (w : SiteContext) (seen : List ℕ) (h : Holds m b w) → (m.current ≡ None → o ≡ None) → c.sizes ≡ b.sizes → SamePart c.parts h.part → Shows m.placing o c (record { position = w.position; seen = seen })
    → Holds (record m { current = o }) c (record { position = w.position; seen = seen })
Holds-shows m o b c w seen h none sizes parts shows = record {
  sizes = h.sizes;
  header = ap (λ ss. map (λ s. s.1) ss) sizes ∙ h.header;
  ended = h.ended;
  within = h.within;
  part = parts.part;
  parts = parts.is;
  counted = ap length parts.hunks ∙ h.counted;
  loads = Loads-same m.placing m (record m { current = o }) b c h.part.hunks parts.part.hunks refl none sizes parts.hunks h.loads;
  shows = shows;
}

Holds-same : (m : BuilderState) (b c : EventValue) (w : SiteContext) → SameShown b c → goes_to_content c.receiver ≡ goes_to_content b.receiver → Holds m b w → Holds m c w
Holds-same m b c w same words h = Holds-shows m m.current b c w w.seen h (λ is. is) same.sizes (same.parts h.part h.parts) (Shows-same m.placing m.current b c w same words h.shows)

passed-none : (o : Option (HunkSoFar ℕ)) → o ≡ None → passed o ≡ None
passed-none o is = ap passed is

Holds-passed : (m : BuilderState) (b c : EventValue) (w : SiteContext) → SameShown b c → goes_to_content c.receiver ≡ false → Holds m b w → Holds (record m { current = passed m.current }) c w
Holds-passed m b c w same words h = Holds-shows m (passed m.current) b c w w.seen h (passed-none m.current) same.sizes (same.parts h.part h.parts) (Shows-passed m.placing m.current b c w same words h.shows)

-- ---- events that an image ignores

-- after this event words are not content, and an image has nothing of it
pub record IsPassed (e : Event) : Type 0 where
  pub same : (b : EventValue) → SameShown b (step b e)
  pub words : (b : EventValue) → goes_to_content (step b e).receiver ≡ false
  pub watch : (w : SiteContext) → context_with Load w e ≡ w
  pub judged : (w : SiteContext) → Judges w e (Ok tt)

pub TakesEvent-passed : (m n : BuilderState) (e : Event) → IsPassed e → n ≡ record m { current = passed m.current } → TakesEvent m n (Ok tt) e
TakesEvent-passed m n e passes is = record {
  takes = λ b w holds. subst (λ v. Holds n (step b e) v) (sym (passes.watch w))
      (subst (λ q. Holds q (step b e) w) (sym is) (Holds-passed m b (step b e) w (passes.same b) (passes.words b) holds));
  refuses = λ b w holds. tt;
  judges = λ b w holds. passes.judged w;
  bases = ap (λ q. q.bases) is;
}

same-but : (b c : EventValue) → c.sizes ≡ b.sizes → c.parts ≡ b.parts → c.hunk.content ≡ b.hunk.content → c.hunk.tables.sites ≡ b.hunk.tables.sites → SameShown b c
same-but b c sizes parts content sites = record { sizes = sizes; parts = λ p is. same-part p c.parts (parts ∙ is); content = content; sites = sites }

pub passes-name : IsPassed event.HunkName
passes-name = record { same = λ b. same-but b (step b event.HunkName) refl refl refl refl; words = λ b. refl; watch = λ w. refl; judged = λ w. tt }

pub passes-symbol : IsPassed event.Symbol
passes-symbol = record { same = λ b. same-but b (step b event.Symbol) refl refl refl refl; words = λ b. refl; watch = λ w. refl; judged = λ w. tt }

pub passes-entry : (t : ℕ) → IsPassed (event.Entry t)
passes-entry t = record { same = λ b. same-but b (step b (event.Entry t)) refl refl refl refl; words = λ b. refl; watch = λ w. refl; judged = λ w. tt }

value-sites : (r : Receiver) (v : ℕ) → (value_to r v).sites ≡ []
value-sites nothing_more v = refl
value-sites to_unit_name v = refl
value-sites to_name v = refl
value-sites to_content v = refl
value-sites to_debug v = refl
value-sites (to_symbol ws) v = refl
value-sites (to_entry zero ws) v = refl
value-sites (to_entry (suc zero) ws) v = refl
value-sites (to_entry (suc (suc n)) ws) v = refl

count-sites : (r : Receiver) (n : ℕ) → (count_to r n).sites ≡ []
count-sites nothing_more n = refl
count-sites to_unit_name n = refl
count-sites to_name n = refl
count-sites to_content n = refl
count-sites to_debug n = refl
count-sites (to_symbol ws) n = refl
count-sites (to_entry t ws) zero = refl
count-sites (to_entry t ws) (suc n) = refl

pub passes-value : (v : ℕ) → IsPassed (event.Value v)
passes-value v = record {
  same = λ b. same-but b (step b (event.Value v)) refl refl refl (ap (λ ss. b.hunk.tables.sites ++ ss) (value-sites b.receiver v) ∙ append-nil b.hunk.tables.sites);
  words = λ b. refl;
  watch = λ w. refl;
  judged = λ w. tt;
}

pub passes-count : (n : ℕ) → IsPassed (event.Count n)
passes-count n = record {
  same = λ b. same-but b (step b (event.Count n)) refl refl refl (ap (λ ss. b.hunk.tables.sites ++ ss) (count-sites b.receiver n) ∙ append-nil b.hunk.tables.sites);
  words = λ b. refl;
  watch = λ w. refl;
  judged = λ w. tt;
}

pub passes-debug : (n : ℕ) → IsPassed (event.Debug n)
passes-debug n = record { same = λ b. same-but b (step b (event.Debug n)) refl refl refl (append-nil b.hunk.tables.sites); words = λ b. refl; watch = λ w. refl; judged = λ w. tt }

pub TakesEvent-table : (m n : BuilderState) (k : ℕ) → n ≡ m → TakesEvent m n (Ok tt) (event.Table k)
TakesEvent-table m n k is = record { takes = λ b w holds. subst (λ q. Holds q b w) (sym is) holds; refuses = λ b w holds. tt; judges = λ b w holds. tt; bases = ap (λ q. q.bases) is }

-- ---- words

-- where a word goes that is not content
word-same : (r : Receiver) (b : EventValue) (n : ℕ) → r ≡ b.receiver → goes_to_content r ≡ false → SameShown b (word_to r b n)
word-same nothing_more b n is words = same-but b b refl refl refl refl
word-same to_unit_name b n is words = record {
  sizes = refl;
  parts = λ p one. rw one (record { part = record p { name = p.name ++ (n ∷ []) }; is = refl; hunks = refl });
  content = refl;
  sites = refl;
}
word-same to_name b n is words = same-but b (word_to to_name b n) refl refl refl refl
word-same to_content b n is words = let wrong : true ≡ false = words in cc
word-same to_debug b n is words = same-but b (word_to to_debug b n) refl refl refl refl
word-same (to_symbol ws) b n is words = same-but b (word_to (to_symbol ws) b n) refl refl refl refl
word-same (to_entry t ws) b n is words = same-but b (word_to (to_entry t ws) b n) refl refl refl refl

word-receiver : (r : Receiver) (b : EventValue) (n : ℕ) → r ≡ b.receiver → goes_to_content (word_to r b n).receiver ≡ goes_to_content b.receiver
word-receiver nothing_more b n is = refl
word-receiver to_unit_name b n is = refl
word-receiver to_name b n is = refl
word-receiver to_content b n is = refl
word-receiver to_debug b n is = refl
word-receiver (to_symbol ws) b n is = ap goes_to_content is
word-receiver (to_entry t ws) b n is = ap goes_to_content is

-- a word that is not content
Holds-word-past : (m : BuilderState) (b : EventValue) (w : SiteContext) (n : ℕ) → goes_to_content b.receiver ≡ false → Holds m b w → Holds m (step b (event.Word n)) w
Holds-word-past m b w n words h = Holds-same m b (step b (event.Word n)) w (word-same b.receiver b n refl words) (word-receiver b.receiver b n refl) h

-- the content with one more word
abbrev with_word : EventValue → ℕ → EventValue
with_word b n = record b { hunk = record b.hunk { content = b.hunk.content ++ (n ∷ []) } }

step-content : (b : EventValue) (n : ℕ) → goes_to_content b.receiver ≡ true → step b (event.Word n) ≡ with_word b n
step-content b n is = ap (λ r. word_to r b n) (receiver-content b.receiver is)

-- a word of content that is not kept, if the hunks are not placed
Holds-word-unkept : (m : BuilderState) (b : EventValue) (w : SiteContext) (n : ℕ) → m.placing ≢ Placed → goes_to_content b.receiver ≡ true → Holds m b w → Holds m (with_word b n) w
Holds-word-unkept m b w n unplaced is h = Holds-shows m m.current b (with_word b n) w w.seen h (λ none. none) refl (same-part h.part b.parts h.parts) (go m.current h.shows)
  where
    go : (o : Option (HunkSoFar ℕ)) → Shows m.placing o b w → Shows m.placing o (with_word b n) w
    go None s = let wrong : true ≡ false = sym is ∙ s.words in cc
    go (Some o) s = record {
      words = s.words;
      sites = s.sites;
      limit = s.limit;
      within = s.within;
      holds = s.holds;
      apart = s.apart;
      content = λ placed. absurd (unplaced placed);
      none = s.none;
      fits = s.fits;
    }

-- the hunk with this much content
abbrev with_content : HunkSoFar ℕ → List ℕ → HunkSoFar ℕ
with_content o bytes = record o { content = bytes }

Holds-word-kept : (m : BuilderState) (b : EventValue) (w : SiteContext) (n : ℕ) (o : HunkSoFar ℕ) → m.placing ≡ Placed → m.current ≡ Some o → goes_to_content b.receiver ≡ true
    → length (o.content ++ big_bytes 4 n) ≤ o.sites.limit → Holds m b w → Holds (record m { current = Some (with_content o (o.content ++ big_bytes 4 n)) }) (with_word b n) w
Holds-word-kept m b w n o placed current is fits h =
    let s : ShowsOpen m.placing o b w = subst (λ q. Shows m.placing q b w) current h.shows in
    Holds-shows m (Some (with_content o (o.content ++ big_bytes 4 n))) b (with_word b n) w w.seen h (λ none. let wrong : Some o ≡ None = sym current ∙ none in cc) refl (same-part h.part b.parts h.parts) (record {
      words = s.words;
      sites = s.sites;
      holds = record { same_limit = s.holds.same_limit; same_sites = s.holds.same_sites };
      limit = s.limit;
      within = s.within;
      apart = s.apart;
      content = λ q. ap (λ bytes. bytes ++ big_bytes 4 n) (s.content q) ∙ sym (bytes_of-append b.hunk.content n);
      none = λ q. absurd (q placed);
      fits = fits;
    })

-- ---- the three ways of a word

word-unkept : (m : BuilderState) (b : EventValue) (w : SiteContext) (n : ℕ) (c : Bool) → goes_to_content b.receiver ≡ c → m.placing ≢ Placed → Holds m b w → Holds m (step b (event.Word n)) w
word-unkept m b w n true is unplaced h = subst (λ c. Holds m c w) (sym (step-content b n is)) (Holds-word-unkept m b w n unplaced is h)
word-unkept m b w n false is unplaced h = Holds-word-past m b w n is h

pub TakesEvent-word-unplaced : (m n : BuilderState) (k : ℕ) → m.placing ≢ Placed → n ≡ m → TakesEvent m n (Ok tt) (event.Word k)
TakesEvent-word-unplaced m n k unplaced is = record {
  takes = λ b w holds. subst (λ q. Holds q (step b (event.Word k)) w) (sym is) (word-unkept m b w k (goes_to_content b.receiver) refl unplaced holds);
  refuses = λ b w holds. tt;
  judges = λ b w holds. tt;
  bases = ap (λ q. q.bases) is;
}

-- no hunk has begun, or the next word is not content
abbrev pub PassesWords : Option (HunkSoFar ℕ) → Type 0
PassesWords None = Unit {0}
PassesWords (Some o) = o.in_content ≡ false

words-pass : (p : Placing) (o : Option (HunkSoFar ℕ)) (b : EventValue) (w : SiteContext) → PassesWords o → Shows p o b w → goes_to_content b.receiver ≡ false
words-pass p None b w pass s = s.words
words-pass p (Some o) b w pass s = sym s.words ∙ pass

pub TakesEvent-word-past : (m n : BuilderState) (k : ℕ) → PassesWords m.current → n ≡ m → TakesEvent m n (Ok tt) (event.Word k)
TakesEvent-word-past m n k pass is = record {
  takes = λ b w holds. subst (λ q. Holds q (step b (event.Word k)) w) (sym is) (Holds-word-past m b w k (words-pass m.placing m.current b w pass holds.shows) holds);
  refuses = λ b w holds. tt;
  judges = λ b w holds. tt;
  bases = ap (λ q. q.bases) is;
}

TakesEvent-word-kept : (m n : BuilderState) (k : ℕ) (o : HunkSoFar ℕ) → m.placing ≡ Placed → m.current ≡ Some o → o.in_content ≡ true → length (o.content ++ big_bytes 4 k) ≤ o.sites.limit
    → n ≡ record m { current = Some (with_content o (o.content ++ big_bytes 4 k)) } → TakesEvent m n (Ok tt) (event.Word k)
TakesEvent-word-kept m n k o placed current words fits is = record {
  takes = λ b w holds. subst (λ q. Holds q (step b (event.Word k)) w) (sym is) (go b w holds);
  refuses = λ b w holds. tt;
  judges = λ b w holds. tt;
  bases = ap (λ q. q.bases) is;
}
  where
    go : (b : EventValue) (w : SiteContext) → Holds m b w → Holds (record m { current = Some (with_content o (o.content ++ big_bytes 4 k)) }) (step b (event.Word k)) w
    go b w h =
        let s : ShowsOpen m.placing o b w = subst (λ q. Shows m.placing q b w) current h.shows in
        let is_content : goes_to_content b.receiver ≡ true = sym s.words ∙ words in
        subst (λ c. Holds (record m { current = Some (with_content o (o.content ++ big_bytes 4 k)) }) c w) (sym (step-content b k is_content)) (Holds-word-kept m b w k o placed current is_content fits h)

-- the current hunk takes a word, and keeps it if it is content
pub TakesEvent-word : (m : BuilderState) (k : ℕ) (o n : HunkSoFar ℕ) (in_content : Bool) → o.in_content ≡ in_content → m.placing ≡ Placed → m.current ≡ Some o → n ≡ hunk_with_word o k
    → length n.content ≤ n.sites.limit → TakesEvent m (record m { current = Some n }) (Ok tt) (event.Word k)
TakesEvent-word m k o n true words placed current adds fits =
    let kept : n ≡ with_content o (o.content ++ big_bytes 4 k) = adds ∙ hunk_with_word-kept o k words in
    TakesEvent-word-kept m (record m { current = Some n }) k o placed current words (subst (λ (q : HunkSoFar ℕ). length q.content ≤ q.sites.limit) kept fits)
    (same-current m n (with_content o (o.content ++ big_bytes 4 k)) kept)
TakesEvent-word m k o n false words placed current adds fits =
    let same : n ≡ o = adds ∙ hunk_with_word-dropped o k words in
    TakesEvent-word-past m (record m { current = Some n }) k (subst PassesWords (sym current) words) (with-current m (Some n) (current ∙ ap (λ q. Some q) (sym same)))

-- ---- a run of words

-- words that change nothing
StandsFor-words : (us : List ℕ) (m : BuilderState) (told : List Event) → ((u : ℕ) → TakesEvent m m (Ok tt) (event.Word u)) → StandsFor m told → StandsFor m (told ++ word_events us)
StandsFor-words [] m told passes h = subst (StandsFor m) (sym (append-nil told)) h
StandsFor-words (u ∷ us) m told passes h =
    subst (StandsFor m) (append_assoc told (event.Word u ∷ []) (word_events us))
    (StandsFor-words us m (told ++ event.Word u ∷ []) passes (StandsFor-takes m m (Ok tt) (event.Word u) (passes u) told h))

-- the current hunk with the bytes of words
abbrev with_bytes : HunkSoFar ℕ → List ℕ → HunkSoFar ℕ
with_bytes o bytes = hunk_with_bytes o bytes

word-fits : (o : HunkSoFar ℕ) (u : ℕ) (more : List ℕ) → length (with_bytes o (big_bytes 4 u ++ more)).content ≤ o.sites.limit → length (with_bytes o (big_bytes 4 u)).content ≤ o.sites.limit
word-fits o u more fits = go o.in_content fits
  where
    go : (kept : Bool) → length (if kept then o.content ++ (big_bytes 4 u ++ more) else o.content) ≤ o.sites.limit → length (if kept then o.content ++ big_bytes 4 u else o.content) ≤ o.sites.limit
    go true within = omega (arith, within, length-append o.content (big_bytes 4 u ++ more), length-append o.content (big_bytes 4 u), length-append (big_bytes 4 u) more)
    go false within = within

-- The current hunk takes words, and keeps their bytes if they are content.
StandsFor-bytes : (us : List ℕ) (m : BuilderState) (o : HunkSoFar ℕ) (told : List Event) → m.placing ≡ Placed → m.current ≡ Some o → length (with_bytes o (bytes_of us)).content ≤ o.sites.limit → StandsFor m told
    → StandsFor (record m { current = Some (with_bytes o (bytes_of us)) }) (told ++ word_events us)
StandsFor-bytes [] m o told placed current fits h =
    subst (λ p. StandsFor (record m { current = Some p }) (told ++ [])) (sym (hunk_with_bytes-none o))
    (subst (λ q. StandsFor q (told ++ [])) (sym (with-current m (Some o) current)) (subst (StandsFor m) (sym (append-nil told)) h))
StandsFor-bytes (u ∷ us) m o told placed current fits h =
    let n = with_bytes o (big_bytes 4 u) in
    let next = record m { current = Some n } in
    let taken = StandsFor-takes m next (Ok tt) (event.Word u) (TakesEvent-word m u o n o.in_content refl placed current refl (word-fits o u (bytes_of us) fits)) told h in
    let same : with_bytes n (bytes_of us) ≡ with_bytes o (bytes_of (u ∷ us)) = hunk_with_bytes-more o u (bytes_of us) in
    subst (λ q. StandsFor (record m { current = Some q }) (told ++ word_events (u ∷ us))) same
    (subst (StandsFor (record m { current = Some (with_bytes n (bytes_of us)) })) (append_assoc told (event.Word u ∷ []) (word_events us))
    (StandsFor-bytes us next n (told ++ event.Word u ∷ []) placed refl (subst (λ (q : HunkSoFar ℕ). length q.content ≤ o.sites.limit) (sym same) fits) taken))

pub TakesRun-same : (m n : BuilderState) (us : List ℕ) → ((u : ℕ) → TakesEvent m m (Ok tt) (event.Word u)) → n ≡ m → TakesRun m n (Ok tt) us
TakesRun-same m n us passes is = record {
  takes = λ told h. subst (λ q. StandsFor q (told ++ word_events us)) (sym is) (StandsFor-words us m told passes h);
  refused = tt;
  bases = ap (λ q. q.bases) is;
}

-- The current hunk takes the bytes of a run, or is left as it was.
pub TakesRun-bytes : (m : BuilderState) (o n : HunkSoFar ℕ) (bytes : List ℕ) (answer : Result (Unit {0}) AllocError) → All (λ b. b < 256) bytes → IsWhole bytes → m.placing ≡ Placed → m.current ≡ Some o
    → OnOk answer (n ≡ with_bytes o bytes) → length n.content ≤ n.sites.limit → OnErr answer (n ≡ o) → TakesRun m (record m { current = Some n }) answer (longwords bytes)
TakesRun-bytes m o n bytes (Ok d) typed whole placed current adds fits refused =
    let same : bytes_of (longwords bytes) ≡ bytes = bytes_of-longwords bytes typed whole in
    let is : n ≡ with_bytes o (bytes_of (longwords bytes)) = adds ∙ ap (λ bs. with_bytes o bs) (sym same) in
    record {
      takes = λ told h. subst (λ q. StandsFor (record m { current = Some q }) (told ++ word_events (longwords bytes))) (sym is)
          (StandsFor-bytes (longwords bytes) m o told placed current (subst (λ (q : HunkSoFar ℕ). length q.content ≤ q.sites.limit) is fits) h);
      refused = tt;
      bases = refl;
    }
TakesRun-bytes m o n bytes (Err e) typed whole placed current adds fits refused = record {
  takes = λ told h. tt;
  refused = with-current m (Some n) (current ∙ ap (λ q. Some q) (sym refused));
  bases = refl;
}

-- ---- sizes

size-grows : (p : Placing) (m : BuilderState) (b : EventValue) (hs : List Hunk) (bits size : ℕ) → p ≡ Unknown → Loads p m b hs → Loads p (record m { sizes = m.sizes ++ (size ∷ []) }) (step b (event.HunkSize bits size)) hs
size-grows Unknown m b hs bits size is l = record { ended = l.ended; made = l.made; current = l.current }
size-grows Placed m b hs bits size is l = cc
size-grows (Refused fault) m b hs bits size is l = cc

-- if no hunk has begun
current-none : (p : Placing) (m : BuilderState) (b : EventValue) (hs : List Hunk) → p ≡ Unknown → Loads p m b hs → m.current ≡ None
current-none Unknown m b hs is l = l.current
current-none Placed m b hs is l = cc
current-none (Refused fault) m b hs is l = cc

Holds-size : (m : BuilderState) (b : EventValue) (w : SiteContext) (bits size : ℕ) → m.placing ≡ Unknown → Holds m b w → Holds (record m { sizes = m.sizes ++ (size ∷ []) }) (step b (event.HunkSize bits size)) (context_with Load w (event.HunkSize bits size))
Holds-size m b w bits size unknown h =
    let none : m.current ≡ None = current-none m.placing m b h.part.hunks unknown h.loads in
    let s : ShowsNone b w = subst (λ o. Shows m.placing o b w) none h.shows in
    record {
      sizes = ap (λ ss. ss ++ (size ∷ [])) h.sizes;
      header = map-append (λ s. s.1) b.sizes ((bits, size) ∷ []) ∙ ap (λ ss. ss ++ (size ∷ [])) h.header;
      ended = h.ended;
      within = omega (arith, h.within, length-append w.position.sizes (size ∷ []));
      part = h.part;
      parts = h.parts;
      counted = h.counted;
      loads = size-grows m.placing m b h.part.hunks bits size unknown h.loads;
      shows = subst (λ o. Shows m.placing o (step b (event.HunkSize bits size)) (context_with Load w (event.HunkSize bits size))) (sym none) (record { content = s.content; sites = s.sites; words = s.words; seen = s.seen });
    }

pub TakesEvent-size : (m n : BuilderState) (bits size : ℕ) → m.placing ≡ Unknown → n ≡ record m { sizes = m.sizes ++ (size ∷ []) } → TakesEvent m n (Ok tt) (event.HunkSize bits size)
TakesEvent-size m n bits size unknown is = record {
  takes = λ b w holds. subst (λ q. Holds q (step b (event.HunkSize bits size)) (context_with Load w (event.HunkSize bits size))) (sym is) (Holds-size m b w bits size unknown holds);
  refuses = λ b w holds. tt;
  judges = λ b w holds. tt;
  bases = ap (λ q. q.bases) is;
}
