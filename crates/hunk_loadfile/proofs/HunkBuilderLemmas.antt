-- What a builder of hunks stands for, after one more event.
use Rattle.std.proofs.Common.{◌≡◌, ℕ, Bool, true, false, ◌+◌, ◌*◌, ◌<◌, List, [], ◌∷◌, ◌++◌, length, map, Vec, slice_index, slice_index_or, if◌then◌else◌, Result, Ok, Err, MatchResult, refl, sym, ap, subst, ◌∙◌, append-nil, append_assoc, arith}
use Rattle.std.proofs.lemmas.Grind.{flat_map-append}
use Rattle.std.proofs.lemmas.List.{map_push}
use Rattle.byteorder.specs.Endian.{big_bytes}
use Rattle.hunk_base.specs.Name.{bytes_of}
use Rattle.hunk_base.specs.OpenName.{Opens}
use Rattle.hunk_base.specs.declared.name.open_name.OpenName.{OpenName}
use Rattle.hunk_base.specs.declared.sites.SiteRefusal.{SiteRefusal}
use Rattle.hunk_words.specs.Event.{word_events}
use Rattle.hunk_words.specs.EventValue.{Receiver as ToldReceiver, EventValue, initial_load, step, word_to, value_of_events, value_to}
use Rattle.hunk_words.specs.EventValue.Receiver.{nothing_more, to_unit_name, to_name, to_content, to_debug, to_symbol, to_entry}
use Rattle.hunk_words.specs.Kinds.{hunk_kind_of}
use Rattle.hunk_words.specs.PartialHunk.{goes_to_content, hunk_with_bytes}
use Rattle.hunk_words.specs.SiteContext.{SiteContext, context_after, context_with, initial_context}
use Rattle.hunk_words.specs.Taker.{context_of}
use Rattle.hunk_words.specs.Values.{Hunk, empty, with_tables, one_site, one_symbol}
use Rattle.hunk_words.specs.Values.Adds.{to_hunk}
use Rattle.hunk_words.specs.declared.event.Event.{Event}
use Rattle.hunk_words.specs.declared.event.Event.TheVariants.{HunkSize, Content, RefSite, Site, Value, HunkEnd}
use Rattle.hunk_words.specs.declared.event.FileKind.TheVariants.{Load}
use Rattle.hunk_words.specs.declared.kinds.HunkKind.{HunkKind}
use Rattle.hunk_words.proofs.NumbersLemmas.{context_after-append}
use Rattle.hunk_loadfile.specs.HunkBuilder.{Builds, IsEnded, IsWithinHunks, Receives, Steps, with_content}
use Rattle.hunk_loadfile.specs.LoadFile.{file_hunk}
use Rattle.hunk_loadfile.specs.LoadHunk.{FileHunk}
use Rattle.hunk_loadfile.specs.OpenHunk.{Shows, Takes, TakesSite}
use Rattle.hunk_loadfile.specs.declared.hunk_builder.HunkBuilder.{HunkBuilder}
use Rattle.hunk_loadfile.specs.declared.hunk_builder.Receiver.{Receiver}
use Rattle.hunk_loadfile.specs.declared.hunk_builder.Receiver.TheVariants as Receiving
use Rattle.hunk_loadfile.specs.declared.open_hunk.OpenHunk.{OpenHunk}

-- ---- one more event

pub Builds-size : {A : Type 0} (b : HunkBuilder A) (v : Vec (ℕ × ℕ) A) (bits n : ℕ) (told : EventValue) (watch : SiteContext) → v.items ≡ b.sizes.items ++ ((bits, n) ∷ []) → Builds b told watch
    → Builds (record b { sizes = v }) (step told (HunkSize bits n)) (context_with Load watch (HunkSize bits n))
Builds-size b v bits n told watch is h = record {
  sizes = is ∙ ap (λ ss. ss ++ ((bits, n) ∷ [])) h.sizes;
  watched = ap (λ ns. ns ++ (n ∷ [])) h.watched ∙ sym (map_push (λ s. s.1) told.sizes (bits, n));
  ended = h.ended;
  hunk = h.hunk;
  receiver = h.receiver;
}

-- The current hunk takes something, and the next word goes elsewhere.
pub Builds-hunk : {A : Type 0} (b : HunkBuilder A) (k : OpenHunk A) (r : Receiver A) (told : EventValue) (hunk : Hunk) (goes : ToldReceiver) (watch : SiteContext) (limit : ℕ) (seen : List ℕ)
    → Builds b told watch → Shows k limit seen (goes_to_content goes) hunk → Receives r goes
    → Builds (record b { hunk = k; receiver = r }) (record told { hunk = hunk; receiver = goes }) (record { position = record watch.position { limit = limit }; seen = seen })
Builds-hunk b k r told hunk goes watch limit seen h shows receives = record {
  sizes = h.sizes;
  watched = h.watched;
  ended = h.ended;
  hunk = shows;
  receiver = receives;
}

-- it takes something that does not move where the next word goes
pub Builds-takes : {A E : Type 0} (b : HunkBuilder A) (k : OpenHunk A) (answer : Result (Unit {0}) E) (more : Bool → Hunk → Hunk) (told next : EventValue) (watch : SiteContext)
    → Takes b.hunk k answer more → Builds b told watch → next ≡ record told { hunk = more (goes_to_content told.receiver) told.hunk }
    → MatchResult answer (λ done. Builds (record b { hunk = k }) next watch) (λ e. Builds (record b { hunk = k }) told watch)
Builds-takes b k (Ok d) more told next watch takes h is =
    let words = goes_to_content told.receiver in
    subst (λ q. Builds (record b { hunk = k }) q watch) (sym is)
    (Builds-hunk b k b.receiver told (more words told.hunk) told.receiver watch watch.position.limit watch.seen h (takes.takes watch.position.limit watch.seen words told.hunk h.hunk) h.receiver)
Builds-takes b k (Err e) more told next watch takes h is =
    Builds-hunk b k b.receiver told told.hunk told.receiver watch watch.position.limit watch.seen h (takes.refuses watch.position.limit watch.seen (goes_to_content told.receiver) told.hunk h.hunk) h.receiver

-- ---- where a word goes

-- The name of the hunk is not kept.
Builds-named : {A : Type 0} (b : HunkBuilder A) (told : EventValue) (watch : SiteContext) (name : List ℕ) → Builds b told watch → Builds b (record told { hunk = record told.hunk { name = name } }) watch
Builds-named b told watch name h =
    let shows = h.hunk in
    Builds-hunk b b.hunk b.receiver told (record told.hunk { name = name }) told.receiver watch watch.position.limit watch.seen h
    (record { kind = shows.kind; content = shows.content; sites = shows.sites; holds = shows.holds; words = shows.words; symbols = shows.symbols; debugs = shows.debugs }) h.receiver

-- It keeps no other word that comes while nothing takes one.
pub Builds-unkept : {A : Type 0} (b : HunkBuilder A) (w : ℕ) (t : ToldReceiver) (told : EventValue) (watch : SiteContext) → Receives {A = A} Receiving.Nothing t → Builds b told watch → Builds b (word_to t told w) watch
Builds-unkept b w nothing_more told watch receives h = h
Builds-unkept b w to_unit_name told watch receives h = absurd receives
Builds-unkept b w to_name told watch receives h = Builds-named b told watch (told.hunk.name ++ (w ∷ [])) h
Builds-unkept b w to_content told watch receives h = absurd receives
Builds-unkept b w to_debug told watch receives h = absurd receives
Builds-unkept b w (to_symbol ws) told watch receives h = absurd receives
Builds-unkept b w (to_entry t ws) told watch receives h = absurd receives

content-goes : (A : Type 0) (t : ToldReceiver) → Receives {A = A} Receiving.Content t → t ≡ to_content
content-goes A nothing_more h = absurd h
content-goes A to_unit_name h = absurd h
content-goes A to_name h = absurd h
content-goes A to_content h = refl
content-goes A to_debug h = absurd h
content-goes A (to_symbol ws) h = absurd h
content-goes A (to_entry t ws) h = absurd h

pub receives-content : {A : Type 0} (b : HunkBuilder A) (t : ToldReceiver) → b.receiver ≡ Receiving.Content → Receives b.receiver t → t ≡ to_content
receives-content {A = A} b t is h = content-goes A t (subst (λ r. Receives r t) is h)

-- nothing else goes there
pub receives-other : {A : Type 0} (r : Receiver A) (t : ToldReceiver) → (r ≡ Receiving.Content → ⊥) → Receives r t → goes_to_content t ≡ false
receives-other r nothing_more other h = refl
receives-other r to_unit_name other h = refl
receives-other r to_name other h = refl
receives-other Receiving.Nothing to_content other h = absurd h
receives-other Receiving.Content to_content other h = absurd (other refl)
receives-other Receiving.Debug to_content other h = absurd h
receives-other (Receiving.Symbol name) to_content other h = absurd h
receives-other r to_debug other h = refl
receives-other r (to_symbol ws) other h = refl
receives-other r (to_entry t ws) other h = refl

debug-goes : (A : Type 0) (t : ToldReceiver) → Receives {A = A} Receiving.Debug t → t ≡ to_debug
debug-goes A nothing_more h = absurd h
debug-goes A to_unit_name h = absurd h
debug-goes A to_name h = absurd h
debug-goes A to_content h = absurd h
debug-goes A to_debug h = refl
debug-goes A (to_symbol ws) h = absurd h
debug-goes A (to_entry t ws) h = absurd h

-- the symbol's longwords so far
pub record Named {A : Type 0} (name : OpenName A) (t : ToldReceiver) : Type 0 where
  pub words : List ℕ
  pub goes : t ≡ to_symbol words
  pub opens : Opens name words

symbol-goes : {A : Type 0} (name : OpenName A) (t : ToldReceiver) → Receives (Receiving.Symbol name) t → Named name t
symbol-goes name nothing_more h = absurd h
symbol-goes name to_unit_name h = absurd h
symbol-goes name to_name h = absurd h
symbol-goes name to_content h = absurd h
symbol-goes name to_debug h = absurd h
symbol-goes name (to_symbol ws) h = record { words = ws; goes = refl; opens = h }
symbol-goes name (to_entry t ws) h = absurd h

pub receives-debug : {A : Type 0} (b : HunkBuilder A) (t : ToldReceiver) → b.receiver ≡ Receiving.Debug → Receives b.receiver t → t ≡ to_debug
receives-debug {A = A} b t is h = debug-goes A t (subst (λ r. Receives r t) is h)

pub receives-symbol : {A : Type 0} (b : HunkBuilder A) (name : OpenName A) (t : ToldReceiver) → b.receiver ≡ Receiving.Symbol name → Receives b.receiver t → Named name t
receives-symbol b name t is h = symbol-goes name t (subst (λ r. Receives r t) is h)

-- ---- a symbol's value

pub Builds-value : {A E : Type 0} (b : HunkBuilder A) (k : OpenHunk A) (name : OpenName A) (v : ℕ) (d : Unit {0}) (told : EventValue) (watch : SiteContext) → b.receiver ≡ Receiving.Symbol name
    → ((ws : List ℕ) → Opens name ws → Takes {E = E} b.hunk k (Ok d) (λ in_content t. with_tables t (one_symbol ws v))) → Builds b told watch
    → Builds (record b { hunk = k; receiver = Receiving.Nothing }) (step told (Value v)) watch
Builds-value b k name v d told watch is takes h =
    let named = receives-symbol b name told.receiver is h.receiver in
    let hunk : Hunk = with_tables told.hunk (one_symbol named.words v) in
    subst (λ t. Builds (record b { hunk = k; receiver = Receiving.Nothing }) (record told { hunk = with_tables told.hunk (value_to t v); receiver = nothing_more }) watch) (sym named.goes)
    (Builds-hunk b k Receiving.Nothing told hunk nothing_more watch watch.position.limit watch.seen h
    (subst (λ t. Shows k watch.position.limit watch.seen (goes_to_content t) hunk) named.goes
    ((takes named.words named.opens).takes watch.position.limit watch.seen (goes_to_content told.receiver) told.hunk h.hunk)) tt)

pub Builds-no_value : {A E : Type 0} (b : HunkBuilder A) (k : OpenHunk A) (name kept : OpenName A) (v : ℕ) (e : E) (told : EventValue) (watch : SiteContext) → b.receiver ≡ Receiving.Symbol name
    → ((ws : List ℕ) → Opens name ws → Takes b.hunk k (Err e) (λ in_content t. with_tables t (one_symbol ws v))) → kept ≡ name → Builds b told watch
    → Builds (record b { hunk = k; receiver = Receiving.Symbol kept }) told watch
Builds-no_value b k name kept v e told watch is takes same h =
    let named = receives-symbol b name told.receiver is h.receiver in
    Builds-hunk b k (Receiving.Symbol kept) told told.hunk told.receiver watch watch.position.limit watch.seen h
    ((takes named.words named.opens).refuses watch.position.limit watch.seen (goes_to_content told.receiver) told.hunk h.hunk)
    (subst (λ r. Receives r told.receiver) (is ∙ ap Receiving.Symbol (sym same)) h.receiver)

-- ---- content

pub size-context_after : {A : Type 0} (b : HunkBuilder A) (told : EventValue) (watch : SiteContext) → Builds b told watch
    → slice_index (map (λ s. s.1) b.sizes.items) b.ended ≡ slice_index watch.position.sizes watch.position.ended
size-context_after b told watch h =
    ap (λ m. slice_index (map (λ s. s.1) b.sizes.items) m) h.ended ∙ ap (λ ns. slice_index ns watch.position.ended) (ap (λ ss. map (λ s. s.1) ss) h.sizes ∙ sym h.watched)

pub Builds-content : {A : Type 0} (b : HunkBuilder A) (k : OpenHunk A) (kind bits n limit : ℕ) (type : HunkKind) (told : EventValue) (watch : SiteContext) → limit ≡ 4 * slice_index watch.position.sizes watch.position.ended
    → type ≡ hunk_kind_of kind → Shows k limit watch.seen true (record told.hunk { kind = type; memory = bits; size = n }) → Builds b told watch
    → Builds (record b { hunk = k; receiver = Receiving.Content }) (step told (Content kind bits n)) (context_with Load watch (Content kind bits n))
Builds-content b k kind bits n limit type told watch is type_is shows h =
    let hunk = record told.hunk { kind = hunk_kind_of kind; memory = bits; size = n } in
    Builds-hunk b k Receiving.Content told hunk to_content watch (4 * slice_index watch.position.sizes watch.position.ended) watch.seen h
    (subst (λ l. Shows k l watch.seen true hunk) is
    (subst (λ t. Shows k limit watch.seen true (record told.hunk { kind = t; memory = bits; size = n })) type_is shows)) tt

-- a run of it
pub Builds-run : {A : Type 0} (b : HunkBuilder A) (bytes ws : List ℕ) (told : EventValue) (watch : SiteContext) → bytes_of ws ≡ bytes → told.receiver ≡ to_content → Builds b told watch
    → Builds (record b { hunk = record b.hunk { partial = hunk_with_bytes b.hunk.partial bytes } }) (with_content told ws) watch
Builds-run b bytes ws told watch are goes h =
    let shows = h.hunk in
    let words : b.hunk.partial.in_content ≡ true = shows.words ∙ ap goes_to_content goes in
    Builds-hunk b (record b.hunk { partial = hunk_with_bytes b.hunk.partial bytes }) b.receiver told (with_content told ws).hunk told.receiver watch watch.position.limit watch.seen h
    (record {
      kind = shows.kind;
      content = ap (λ kept. if kept then b.hunk.partial.content ++ bytes else b.hunk.partial.content) words ∙ ap (λ front. front ++ bytes) shows.content ∙ ap (λ more. bytes_of told.hunk.content ++ more) (sym are) ∙ sym (flat_map-append (λ w. big_bytes 4 w) told.hunk.content ws);
      sites = shows.sites;
      holds = record { same_limit = shows.holds.same_limit; same_sites = shows.holds.same_sites };
      words = shows.words;
      symbols = shows.symbols;
      debugs = shows.debugs;
    }) h.receiver

-- ---- the end of a hunk

pub Builds-end : {A : Type 0} (b : HunkBuilder A) (k : OpenHunk A) (ended limit : ℕ) (told : EventValue) (watch : SiteContext) → ended ≡ b.ended + 1 → limit ≡ watch.position.limit → Shows k limit [] false empty → Builds b told watch
    → Builds (record b { hunk = k; ended = ended; receiver = Receiving.Nothing }) (step told HunkEnd) (context_with Load watch HunkEnd)
Builds-end b k ended limit told watch one_more same shows h = record {
  sizes = h.sizes;
  watched = h.watched;
  ended = let before : b.ended ≡ watch.position.ended = h.ended in omega arith;
  hunk = subst (λ l. Shows k l [] false empty) same shows;
  receiver = tt;
}

pub IsEnded-from : {A : Type 0} (b : HunkBuilder A) (s : ℕ × ℕ) (whole : FileHunk) (told : EventValue) (watch : SiteContext) → b.ended < length b.sizes.items → s ≡ slice_index_or b.sizes.items b.ended s → watch.position.limit ≡ 4 * s.1
    → whole ≡ file_hunk s.0 s.1 told.hunk → Builds b told watch → IsEnded whole told watch
IsEnded-from b s whole told watch within is limit value h = record {
  header = s;
  within = omega (arith, within, h.ended, ap length h.sizes);
  has_header = is ∙ ap (λ n. slice_index_or b.sizes.items n s) h.ended ∙ ap (λ ss. slice_index_or ss watch.position.ended s) h.sizes;
  limit = limit;
  value = value;
}

-- ---- a site

-- is an event that the hunk takes
pub steps-site : {A : Type 0} (b : HunkBuilder A) (k : OpenHunk A) (answer : Result (Unit {0}) SiteRefusal) (o t : ℕ) → TakesSite b.hunk k answer o t → Steps b (record b { hunk = k }) answer (Site o t)
steps-site b k (Ok d) o t takes = λ told watch h.
    Builds-hunk b k b.receiver told (with_tables told.hunk (one_site o (to_hunk t))) told.receiver watch watch.position.limit (o ∷ watch.seen) h (takes.takes watch.position.limit watch.seen (goes_to_content told.receiver) told.hunk h.hunk) h.receiver
steps-site b k (Err e) o t takes = λ told watch h.
    Builds-hunk b k b.receiver told told.hunk told.receiver watch watch.position.limit watch.seen h (takes.refuses watch.position.limit watch.seen (goes_to_content told.receiver) told.hunk h.hunk) h.receiver

-- ---- a run of words

-- that are content
words-content : (ws : List ℕ) (told : EventValue) → told.receiver ≡ to_content → value_of_events told (word_events ws) ≡ with_content told ws
words-content [] told goes = ap (λ content. record told { hunk = record told.hunk { content = content } }) (sym (append-nil told.hunk.content))
words-content (u ∷ us) told goes =
    ap (λ t. value_of_events (word_to t told u) (word_events us)) goes
    ∙ words-content us (with_content told (u ∷ [])) goes
    ∙ ap (λ content. record told { hunk = record told.hunk { content = content } }) (append_assoc told.hunk.content (u ∷ []) us)

value_of_events-more : (built : EventValue) (es fs : List Event) → value_of_events built (es ++ fs) ≡ value_of_events (value_of_events built es) fs
value_of_events-more built [] fs = refl
value_of_events-more built (e ∷ es) fs = value_of_events-more (step built e) es fs

pub value_of_events-run : (told : List Event) (ws : List ℕ) → (value_of_events initial_load told).receiver ≡ to_content
    → value_of_events initial_load (told ++ word_events ws) ≡ with_content (value_of_events initial_load told) ws
value_of_events-run told ws goes = value_of_events-more initial_load told (word_events ws) ∙ words-content ws (value_of_events initial_load told) goes

words-unwatched : (ws : List ℕ) (watch : SiteContext) → context_after Load watch (word_events ws) ≡ watch
words-unwatched [] watch = refl
words-unwatched (w ∷ ws) watch = words-unwatched ws watch

-- A run of words changes nothing of the sites.
pub context_of-run : (told : List Event) (ws : List ℕ) → context_of Load (told ++ word_events ws) ≡ context_of Load told
context_of-run told ws = context_after-append Load initial_context told (word_events ws) ∙ words-unwatched ws (context_of Load told)

-- ---- events of no load file

pub no_reference : (e : Event) → IsWithinHunks e → (o : ℕ) → e ≡ RefSite o → ⊥
no_reference e within o is = subst IsWithinHunks is within
