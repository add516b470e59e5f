-- What a comparer stands for, after one more event.
use Rattle.std.proofs.Common.{◌≡◌, ◌*◌, ◌∙◌, true, false, ℕ, Some, List, [], ◌∷◌, ◌++◌, Result, Ok, Err, MatchResult, OnOk, OnErr, length, slice_get, refl, sym, ap, subst, arith}
use Rattle.std.proofs.lemmas.Grind.{flat_map-append}
use Rattle.byteorder.specs.Endian.{big_bytes}
use Rattle.hunk_base.specs.Longwords.{longwords}
use Rattle.hunk_base.specs.Name.{bytes_of}
use Rattle.hunk_base.specs.declared.sites.SiteRefusal.{SiteRefusal}
use Rattle.hunk_words.specs.Event.{word_events}
use Rattle.hunk_words.specs.EventValue.{EventValue, Receiver, initial_load, step, value_of_events, word_to}
use Rattle.hunk_words.specs.EventValue.Receiver.{nothing_more, to_unit_name, to_name, to_content, to_debug, to_symbol, to_entry}
use Rattle.hunk_words.specs.PartialHunk.{goes_to_content}
use Rattle.hunk_words.specs.SiteContext.{SiteContext, context_with, initial_context}
use Rattle.hunk_words.specs.Taker.{context_of}
use Rattle.hunk_words.specs.ValueDecoder.{TellsBytes}
use Rattle.hunk_words.specs.declared.event.Event.{Event}
use Rattle.hunk_words.specs.declared.event.Event.TheVariants as event
use Rattle.hunk_words.specs.declared.event.FileKind.TheVariants.{Load}
use Rattle.hunk_words.proofs.TakerLemmas.{value_of_events-append, context_after-append}
use Rattle.hunk_loadfile.specs.Comparer.{Compares, Steps, StandsFor, content_at, content_of, without_content}
use Rattle.hunk_loadfile.specs.Comparison.{HasFound, IsComparedWith, differing_symbol}
use Rattle.hunk_loadfile.specs.ContentComparer.{Follows}
use Rattle.hunk_loadfile.specs.HunkBuilder.{Builds, IsEnded, IsWithinHunks, Steps as HunkSteps, with_content}
use Rattle.hunk_loadfile.specs.Difference.{first_difference, with_bytes}
use Rattle.hunk_loadfile.specs.LoadHunk.{FileHunk}
use Rattle.hunk_loadfile.specs.declared.comparer.Comparer.{Comparer}
use Rattle.hunk_loadfile.specs.declared.comparison.Comparison.{Comparison}
use Rattle.hunk_loadfile.specs.declared.content_comparer.ContentComparer.{ContentComparer}
use Rattle.hunk_loadfile.specs.declared.hunk_builder.HunkBuilder.{HunkBuilder}
use Rattle.hunk_loadfile.proofs.EndedLemmas.{HaveEnded-content, HaveEnded-end, HaveEnded-more, length-ended}
use Rattle.hunk_loadfile.proofs.HunkBuilderLemmas.{context_of-run, value_of_events-run}
use Rattle.hunk_loadfile.proofs.PartialLemmas.{HaveEnded-load}

-- ---- events beside content

-- an event that is not a word of content
abbrev pub IsBeside : Receiver → Event → Type 0
IsBeside goes (event.Word w) = goes_to_content goes ≡ false
IsBeside goes e = Unit {0}

-- It says the same of a hunk without its content, and nothing of the content.
pub record Beside (told : EventValue) (watch : SiteContext) (e : Event) : Type 0 where
  pub without : step (without_content told) e ≡ without_content (step told e)
  pub content : (step told e).hunk.content ≡ told.hunk.content
  pub ended : (context_with Load watch e).position.ended ≡ watch.position.ended

beside-word : (goes : Receiver) (told : EventValue) (watch : SiteContext) (w : ℕ) → goes_to_content goes ≡ false
    → (word_to goes (without_content told) w ≡ without_content (word_to goes told w)) × ((word_to goes told w).hunk.content ≡ told.hunk.content)
beside-word nothing_more told watch w other = (refl, refl)
beside-word to_unit_name told watch w other = (refl, refl)
beside-word to_name told watch w other = (refl, refl)
beside-word to_content told watch w other = absurd (cc)
beside-word to_debug told watch w other = (refl, refl)
beside-word (to_symbol ws) told watch w other = (refl, refl)
beside-word (to_entry t ws) told watch w other = (refl, refl)

pub beside-event : (told : EventValue) (watch : SiteContext) (e : Event) → IsWithinHunks e → IsBeside told.receiver e → Beside told watch e
beside-event told watch event.HunkEnd within beside = absurd within
beside-event told watch (event.Word w) within beside = let b = beside-word told.receiver told watch w beside in record { without = b.0; content = b.1; ended = refl }
beside-event told watch e within beside = record { without = refl; content = refl; ended = refl }

module _ {A : Type 0} (c : Comparer A) (k : HunkBuilder A) where
  -- The builder of hunks takes it.
  pub Compares-beside : (told : EventValue) (watch : SiteContext) (e : Event) → IsWithinHunks e → IsBeside told.receiver e → Builds k (step (without_content told) e) (context_with Load watch e) → Compares c told watch
      → Compares (record c { current = k }) (step told e) (context_with Load watch e)
  Compares-beside told watch e within beside builds h =
      let b = beside-event told watch e within beside in
      record {
        hunks = h.hunks;
        ended = HaveEnded-more c.current.receiver e h.hunks told watch within h.builds.receiver h.ended;
        builds = subst (λ q. Builds k q (context_with Load watch e)) b.without builds;
        content = subst (λ (n : ℕ). Follows c.content (content_at c.first n) (bytes_of (step told e).hunk.content)) (sym b.ended) (subst (λ ws. Follows c.content (content_at c.first watch.position.ended) (bytes_of ws)) (sym b.content) h.content);
        found = h.found;
      }

  pub Compares-refused : (told : EventValue) (watch : SiteContext) → Builds k (without_content told) watch → Compares c told watch → Compares (record c { current = k }) told watch
  Compares-refused told watch builds h = record { hunks = h.hunks; ended = h.ended; builds = builds; content = h.content; found = h.found }

  pub steps-beside : {E : Type 0} (answer : Result (Unit {0}) E) (e : Event) → OnOk answer (IsWithinHunks e) → ((told : EventValue) (watch : SiteContext) → Compares c told watch → IsBeside told.receiver e) → HunkSteps c.current k answer e
      → Steps c (record c { current = k }) answer e
  steps-beside (Ok d) e within beside steps = λ told watch h. Compares-beside told watch e within (beside told watch h) (steps (without_content told) watch h.builds) h
  steps-beside (Err r) e within beside steps = λ told watch h. Compares-refused told watch (steps (without_content told) watch h.builds) h

-- a site
pub steps-site : {A : Type 0} (c : Comparer A) (k : HunkBuilder A) (answer : Result (Unit {0}) SiteRefusal) (o t : ℕ) → HunkSteps c.current k answer (event.Site o t) → Steps c (record c { current = k }) answer (event.Site o t)
steps-site c k (Ok d) o t steps = steps-beside c k {E = SiteRefusal} (Ok d) (event.Site o t) tt (λ told watch h. tt) steps
steps-site c k (Err r) o t steps = steps-beside c k {E = SiteRefusal} (Err r) (event.Site o t) tt (λ told watch h. tt) steps

-- the same event under another name
pub Steps-event : {A E : Type 0} (old new : Comparer A) (answer : Result (Unit {0}) E) (e d : Event) → d ≡ e → Steps old new answer e → Steps old new answer d
Steps-event old new answer e d is steps = subst (λ f. Steps old new answer f) (sym is) steps

-- any other event that is not a word
pub beside-other : (e : Event) → ((w : ℕ) → e ≡ event.Word w → ⊥) → (goes : Receiver) → IsBeside goes e
beside-other (event.Word w) other goes = absurd (other w refl)
beside-other e other goes = tt

-- ---- content

pub Compares-content : {A : Type 0} (c : Comparer A) (content : ContentComparer) (told : EventValue) (watch : SiteContext) (ws : List ℕ) → Follows content (content_at c.first watch.position.ended) (bytes_of told.hunk.content ++ bytes_of ws) → Compares c told watch
    → Compares (record c { content = content }) (with_content told ws) watch
Compares-content c content told watch ws follows h = record {
  hunks = h.hunks;
  ended = HaveEnded-content h.hunks told watch ws h.ended;
  builds = h.builds;
  content = subst (λ bytes. Follows content (content_at c.first watch.position.ended) bytes) (sym (flat_map-append (λ w. big_bytes 4 w) told.hunk.content ws)) follows;
  found = h.found;
}

pub Compares-same : {A : Type 0} (c : Comparer A) (content : ContentComparer) (told : EventValue) (watch : SiteContext) → Follows content (content_at c.first watch.position.ended) (bytes_of told.hunk.content) → Compares c told watch
    → Compares (record c { content = content }) told watch
Compares-same c content told watch follows h = record { hunks = h.hunks; ended = h.ended; builds = h.builds; content = follows; found = h.found }

pub MatchResult-content : {A E : Type 0} (c : Comparer A) (content : ContentComparer) (answer : Result (Unit {0}) E) (told : EventValue) (watch : SiteContext) (ws first bytes : List ℕ) → first ≡ content_at c.first watch.position.ended → bytes ≡ bytes_of ws → Compares c told watch
    → ((came : List ℕ) → Follows c.content first came → MatchResult answer (λ done. Follows content first (came ++ bytes)) (λ e. Follows content first came))
    → MatchResult answer (λ done. Compares (record c { content = content }) (with_content told ws) watch) (λ e. Compares (record c { content = content }) told watch)
MatchResult-content c content (Ok d) told watch ws first bytes beside are h takes =
    Compares-content c content told watch ws
    (subst (λ more. Follows content (content_at c.first watch.position.ended) (bytes_of told.hunk.content ++ more)) are
    (subst (λ other. Follows content other (bytes_of told.hunk.content ++ bytes)) beside
    (takes (bytes_of told.hunk.content) (subst (λ other. Follows c.content other (bytes_of told.hunk.content)) (sym beside) h.content)))) h
MatchResult-content c content (Err e) told watch ws first bytes beside are h takes =
    Compares-same c content told watch
    (subst (λ other. Follows content other (bytes_of told.hunk.content)) beside
    (takes (bytes_of told.hunk.content) (subst (λ other. Follows c.content other (bytes_of told.hunk.content)) (sym beside) h.content))) h

pub content-goes : (goes : Receiver) → goes_to_content goes ≡ true → goes ≡ to_content
content-goes nothing_more h = absurd (cc)
content-goes to_unit_name h = absurd (cc)
content-goes to_name h = absurd (cc)
content-goes to_content h = refl
content-goes to_debug h = absurd (cc)
content-goes (to_symbol ws) h = absurd (cc)
content-goes (to_entry t ws) h = absurd (cc)

-- a word of it
pub steps-content : {A E : Type 0} (c new : Comparer A) (answer : Result (Unit {0}) E) (w : ℕ) → ((told : EventValue) (watch : SiteContext) → Compares c told watch → goes_to_content told.receiver ≡ true)
    → ((told : EventValue) (watch : SiteContext) → Compares c told watch → MatchResult answer (λ done. Compares new (with_content told (w ∷ [])) watch) (λ e. Compares new told watch)) → Steps c new answer (event.Word w)
steps-content c new (Ok d) w goes takes = λ told watch h. subst (λ t. Compares new (word_to t told w) watch) (sym (content-goes told.receiver (goes told watch h))) (takes told watch h)
steps-content c new (Err e) w goes takes = λ told watch h. takes told watch h

-- ---- the events of a comparer

StandsFor-next : {A : Type 0} (c : Comparer A) (told : List Event) (e : Event) → Compares c (step (value_of_events initial_load told) e) (context_with Load (context_of Load told) e) → StandsFor c (told ++ (e ∷ []))
StandsFor-next c told e h =
    subst (λ q. Compares c q (context_of Load (told ++ (e ∷ [])))) (sym (value_of_events-append initial_load told e))
    (subst (Compares c (step (value_of_events initial_load told) e)) (sym (context_after-append Load initial_context told e)) h)

pub takes-next : {A E : Type 0} (old new : Comparer A) (answer : Result (Unit {0}) E) (e : Event) (told : List Event) → Steps old new answer e → StandsFor old told → OnOk answer (StandsFor new (told ++ (e ∷ [])))
takes-next old new (Ok d) e told steps h = StandsFor-next new told e (steps _ _ h)
takes-next old new (Err r) e told steps h = tt

pub refuses-next : {A E : Type 0} (old new : Comparer A) (answer : Result (Unit {0}) E) (e : Event) (told : List Event) → Steps old new answer e → StandsFor old told → OnErr answer (StandsFor new told)
refuses-next old new (Ok d) e told steps h = tt
refuses-next old new (Err r) e told steps h = steps _ _ h

-- a run of content
pub StandsFor-run : {A : Type 0} (c : Comparer A) (told : List Event) (ws : List ℕ) → (value_of_events initial_load told).receiver ≡ to_content → Compares c (with_content (value_of_events initial_load told) ws) (context_of Load told) → StandsFor c (told ++ word_events ws)
StandsFor-run c told ws goes h =
    subst (λ q. Compares c q (context_of Load (told ++ word_events ws))) (sym (value_of_events-run told ws goes))
    (subst (Compares c (with_content (value_of_events initial_load told) ws)) (sym (context_of-run told ws)) h)

-- ---- the end of a hunk

-- The hunk that ends has the content that came.
whole-ended : (second : FileHunk) (told : EventValue) (watch : SiteContext) → IsEnded second (without_content told) watch → IsEnded (with_bytes second (bytes_of told.hunk.content)) told watch
whole-ended second told watch ended = record {
  header = ended.header;
  within = ended.within;
  has_header = ended.has_header;
  limit = ended.limit;
  value = ap (λ hunk. with_bytes hunk (bytes_of told.hunk.content)) ended.value;
}

pub Compares-end : {A : Type 0} (c : Comparer A) (k : HunkBuilder A) (content : ContentComparer) (second : FileHunk) (found : Comparison A) (told : EventValue) (watch : SiteContext) (h : Compares c told watch) → IsEnded second (without_content told) watch
    → Builds k (step (without_content told) event.HunkEnd) (context_with Load watch event.HunkEnd) → ((first : List ℕ) → Follows content first []) → HasFound found c.first (h.hunks ++ with_bytes second (bytes_of told.hunk.content) ∷ [])
    → Compares (record { first = c.first; current = k; content = content; found = found }) (step told event.HunkEnd) (context_with Load watch event.HunkEnd)
Compares-end c k content second found told watch h ended builds follows finds = record {
  hunks = h.hunks ++ with_bytes second (bytes_of told.hunk.content) ∷ [];
  ended = HaveEnded-end (with_bytes second (bytes_of told.hunk.content)) h.hunks told watch (whole-ended second told watch ended) h.ended;
  builds = record { sizes = builds.sizes; watched = builds.watched; ended = builds.ended; hunk = builds.hunk; receiver = builds.receiver };
  content = follows _;
  found = finds;
}

-- how many hunks have ended
pub number-ended : {A : Type 0} (c : Comparer A) (told : EventValue) (watch : SiteContext) (h : Compares c told watch) → c.current.ended ≡ length h.hunks
number-ended c told watch h = h.builds.ended ∙ sym (length-ended h.hunks told watch h.ended)

-- its size in memory
pub size-ended : (second : FileHunk) (told : EventValue) (watch : SiteContext) → IsEnded second told watch → watch.position.limit ≡ 4 * second.size
size-ended second told watch ended = ended.limit ∙ ap (λ size. 4 * size) (sym (ap (λ (hunk : FileHunk). hunk.size) ended.value))

-- the content of the first file's hunk beside it
pub Follows-beside : {A : Type 0} (c : Comparer A) (told : EventValue) (watch : SiteContext) (number : ℕ) (first : FileHunk) → number ≡ c.current.ended → slice_get c.first number ≡ Some first → Compares c told watch → Follows c.content first.content (bytes_of told.hunk.content)
Follows-beside c told watch number first at is h =
    subst (λ (content : List ℕ). Follows c.content content (bytes_of told.hunk.content)) (ap (content_at c.first) (sym (at ∙ h.builds.ended)) ∙ ap content_of is) h.content

-- ---- before the first event

pub StandsFor-none : {A : Type 0} (c : Comparer A) → Builds c.current initial_load initial_context → ((first : List ℕ) → Follows c.content first []) → HasFound c.found c.first [] → StandsFor c []
StandsFor-none c builds follows finds = record {
  hunks = [];
  ended = record { part = record { name = []; hunks = [] }; one_part = refl; values = refl; few = omega arith; count = refl };
  builds = builds;
  content = follows _;
  found = finds;
}

-- ---- after a whole file

pub IsComparedWith-from : {A : Type 0} (c : Comparer A) (found : Comparison A) (bytes : List ℕ) (tells : TellsBytes Load (StandsFor c) bytes) → found.difference ≡ first_difference c.first tells.1.stands.hunks → found.info_difference ≡ c.found.info_difference
    → found.symbol ≡ c.found.symbol → IsComparedWith c.first found bytes
IsComparedWith-from c found bytes tells difference info symbol =
    let h = tells.1.stands in
    record {
      seconds = h.hunks;
      is_load = record { whole = tells.0; is_load = HaveEnded-load h.hunks tells.1.tree (longwords bytes) _ tells.1.is_file h.ended };
      compares = record {
        difference = difference;
        info_difference = info ∙ h.found.info_difference;
        symbol = symbol ∙ h.found.symbol ∙ ap (differing_symbol h.hunks) (sym info);
      };
    }
