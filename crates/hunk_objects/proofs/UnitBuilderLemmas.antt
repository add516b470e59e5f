-- What a builder of program units holds, after one more event.
use Rattle.std.proofs.Common.{◌≡◌, ◌⊎◌, inl, inr, ℕ, ◌<◌, Bool, true, false, if◌then◌else◌, List, [], ◌∷◌, ◌++◌, map, Option, Some, None, Vec, vec_len, vec_capacity, Result, Ok, Err, OnOk, OnErr, append-nil, append_assoc, refl, sym, ap, subst, ◌∙◌}
use Rattle.std.specs.BTreeMap.{insert_entry}
use Rattle.std.specs.Ordering.{nat_cmp}
use Rattle.std.proofs.lemmas.List.{map_push}
use Rattle.std.specs.declared.alloc.AllocError.{AllocError}
use Rattle.byteorder.specs.Endian.{big_bytes}
use Rattle.hunk_words.specs.Event.{word_events}
use Rattle.hunk_base.specs.Name.{bytes_of, name_of}
use Rattle.hunk_base.specs.OpenName.{Opens, bytes_so_far}
use Rattle.hunk_words.specs.PartialHunk.{HoldsSites, goes_to_content, hunk_with_bytes, hunk_with_site, hunk_with_word}
use Rattle.hunk_words.proofs.PartialHunkLemmas.{bytes_of-append, hunk_with_bytes-more, hunk_with_bytes-none, hunk_with_word-dropped, hunk_with_word-kept}
use Rattle.hunk_words.specs.Taker.{context_of}
use Rattle.hunk_words.specs.Values.{Adds as FileAdds, Definition as FileDefinition, Hunk, HunkTables, Part, empty, with_tables, one_site}
use Rattle.hunk_words.specs.EventValue.{Receiver as ToldReceiver, EventValue, initial_object, on_last, step, value_of_events, word_to}
use Rattle.hunk_words.specs.EventValue.Receiver.{nothing_more, to_unit_name, to_content, to_debug}
use Rattle.hunk_words.specs.SiteContext.{SiteContext, context_after, context_with, initial_context}
use Rattle.hunk_words.specs.declared.event.Event.{Event}
use Rattle.hunk_words.specs.declared.event.Event.TheVariants.{Unit as UnitBegins, Word, HunkEnd}
use Rattle.hunk_words.specs.declared.event.FileKind.TheVariants.{Object}
use Rattle.hunk_base.specs.declared.name.open_name.OpenName.{OpenName}
use Rattle.hunk_base.specs.declared.sites.SiteRefusal.{SiteRefusal}
use Rattle.hunk_words.proofs.EventValueLemmas.{on_last-append}
use Rattle.hunk_words.proofs.TakerLemmas.{value_of_events-append, context_after-append}
use Rattle.hunk_objects.specs.OpenHunk.{UnitHunkSoFar, Shows, Takes, receiver_of}
use Rattle.hunk_objects.specs.OpenUnit.{ShowsUnit, UnitSoFar}
use Rattle.hunk_objects.specs.ProgramUnit.{ObjectUnit, object_unit, object_units}
use Rattle.hunk_objects.specs.UnitBuilder.{HasRoom, Holds, Receives, ShowsParts, ShowsUnits, StandsFor, Steps, units_so_far}
use Rattle.hunk_objects.specs.UnitHunk.{adds_of, definition_of, object_hunk, with_sites}
use Rattle.hunk_objects.specs.declared.open_hunk.Named.{Named}
use Rattle.hunk_objects.specs.declared.open_hunk.Named.TheVariants.{Symbol, Offset, Number, Reference}
use Rattle.hunk_objects.specs.declared.unit_builder.Receiver.{Receiver}
use Rattle.hunk_objects.specs.declared.unit_builder.Receiver.TheVariants as Receiving
use Rattle.hunk_objects.specs.declared.unit_builder.UnitBuilder.{UnitBuilder}
use Rattle.hunk_objects.specs.declared.unit_hunk.Adds.{Adds}

-- ---- units

-- the units so far are the parts that the events told
pub units_so_far-parts : {A : Type 0} (units : List ObjectUnit) (unit : Option (UnitSoFar A)) (parts : List Part) → ShowsParts units unit parts → units_so_far units unit ≡ object_units parts
units_so_far-parts units None parts shows = shows.0 ∙ ap object_units (sym shows.1)
units_so_far-parts units (Some unit) parts shows =
    ap (λ us. us ++ (record { name = bytes_so_far unit.name; hunks = unit.hunks } ∷ [])) shows.units_are
    ∙ ap (λ (u : ObjectUnit). object_units shows.ended ++ (u ∷ [])) (last-is shows.last shows.shows)
    ∙ sym (map_push object_unit shows.ended shows.last) ∙ ap object_units (sym shows.parts_are)
  where
    last-is : (last : Part) → ShowsUnit unit last → record { name = bytes_so_far unit.name; hunks = unit.hunks } ≡ object_unit last
    last-is last is = ap (λ n. let u : ObjectUnit = record { name = n; hunks = unit.hunks } in u) is.name.name ∙ ap (λ hs. let u : ObjectUnit = record { name = name_of last.name; hunks = hs } in u) is.hunks

-- The current unit takes something.
ShowsUnits-last : {A : Type 0} (f : Part → Part) (units : List ObjectUnit) (unit new : UnitSoFar A) (parts : List Part) → ((part : Part) → ShowsUnit unit part → ShowsUnit new (f part))
    → ShowsUnits units unit parts → ShowsUnits units new (on_last f parts)
ShowsUnits-last f units unit new parts takes shows = record {
  ended = shows.ended;
  last = f shows.last;
  parts_are = ap (λ ps. on_last f ps) shows.parts_are ∙ on_last-append f shows.ended shows.last;
  units_are = shows.units_are;
  shows = takes shows.last shows.shows;
}

-- A unit begins.
pub Holds-unit : {A : Type 0} (b : UnitBuilder A) (units : Vec ObjectUnit A) (fresh : UnitSoFar A) (k : UnitHunkSoFar A) (told : EventValue) (context : SiteContext)
    → units.items ≡ units_so_far b.units.items b.unit → vec_len units < vec_capacity units → Opens fresh.name [] → fresh.hunks ≡ []
    → k ≡ record b.hunk { partial = record b.hunk.partial { in_content = false } } → Holds b told context
    → Holds (record b { units = units; unit = Some fresh; hunk = k; receiver = Receiving.UnitName }) (step told UnitBegins) (context_with Object context UnitBegins)
Holds-unit b units fresh k told context items room name none is h = record {
  units = record {
    ended = told.parts;
    last = record { name = []; hunks = [] };
    parts_are = refl;
    units_are = items ∙ units_so_far-parts b.units.items b.unit told.parts h.units;
    shows = record { name = name; hunks = none };
  };
  room = room;
  hunk = subst (λ hunk. Shows hunk context.position.limit context.seen false told.hunk) (sym is) (Shows-ended b.hunk context.position.limit context.seen (goes_to_content told.receiver) told.hunk h.hunk);
  receiver = refl;
}
  where
    Shows-ended : {A : Type 0} (hunk : UnitHunkSoFar A) (limit : ℕ) (seen : List ℕ) (in_content : Bool) (told : Hunk) → Shows hunk limit seen in_content told
        → Shows (record hunk { partial = record hunk.partial { in_content = false } }) limit seen false told
    Shows-ended hunk limit seen in_content told s = record {
      name = s.name;
      kind = s.kind;
      memory = s.memory;
      size = s.size;
      content = s.content;
      sites = s.sites;
      holds = record { same_limit = s.holds.same_limit; same_sites = s.holds.same_sites };
      words = refl;
      references = s.references;
      definitions = s.definitions;
      symbols = s.symbols;
      debugs = s.debugs;
    }

-- A longword of the unit's name.
pub Steps-unit_name : {A E : Type 0} (b : UnitBuilder A) (unit new : UnitSoFar A) (answer : Result (Unit {0}) E) (w : ℕ) → b.receiver ≡ Receiving.UnitName → b.unit ≡ Some unit → new.hunks ≡ unit.hunks
    → ((words : List ℕ) → Opens unit.name words → OnOk answer (Opens new.name (words ++ (w ∷ [])))) → ((words : List ℕ) → Opens unit.name words → OnErr answer (Opens new.name words))
    → Steps b (record b { unit = Some new }) answer (Word w)
Steps-unit_name b unit new (Ok d) w goes is same takes refuses = λ told context h.
    let units : ShowsUnits b.units.items unit told.parts = subst (λ u. ShowsParts b.units.items u told.parts) is h.units in
    let there : told.receiver ≡ to_unit_name = subst (λ r. Receives r told.receiver) goes h.receiver in
    subst (λ t. Holds (record b { unit = Some new }) (word_to t told w) context) (sym there) (record {
      units = ShowsUnits-last (λ p. record p { name = p.name ++ (w ∷ []) }) b.units.items unit new told.parts (λ part shows. record { name = takes part.name shows.name; hunks = same ∙ shows.hunks }) units;
      room = subst (HasRoom b.units) is h.room;
      hunk = h.hunk;
      receiver = h.receiver;
    })
Steps-unit_name b unit new (Err e) w goes is same takes refuses = λ told context h.
    let units : ShowsUnits b.units.items unit told.parts = subst (λ u. ShowsParts b.units.items u told.parts) is h.units in
    record {
      units = record { ended = units.ended; last = units.last; parts_are = units.parts_are; units_are = units.units_are; shows = record { name = refuses units.last.name units.shows.name; hunks = same ∙ units.shows.hunks } };
      room = subst (HasRoom b.units) is h.room;
      hunk = h.hunk;
      receiver = h.receiver;
    }

-- The current hunk ends.
pub Holds-end : {A : Type 0} (b : UnitBuilder A) (unit new : UnitSoFar A) (k : UnitHunkSoFar A) (told : EventValue) (context : SiteContext) → b.unit ≡ Some unit → new.name ≡ unit.name
    → new.hunks ≡ unit.hunks ++ (object_hunk told.hunk ∷ []) → Shows k b.hunk.partial.sites.limit [] false empty → Holds b told context
    → Holds (record b { unit = Some new; hunk = k; receiver = Receiving.Hunk }) (step told HunkEnd) (context_with Object context HunkEnd)
Holds-end b unit new k told context is same ends begins h = record {
  units = ShowsUnits-last (λ p. record p { hunks = p.hunks ++ (told.hunk ∷ []) }) b.units.items unit new told.parts
      (λ part shows. record {
        name = subst (λ n. Opens n part.name) (sym same) shows.name;
        hunks = ends ∙ ap (λ hs. hs ++ (object_hunk told.hunk ∷ [])) shows.hunks ∙ sym (map_push object_hunk part.hunks told.hunk);
      })
      (subst (λ u. ShowsParts b.units.items u told.parts) is h.units);
  room = subst (HasRoom b.units) is h.room;
  hunk = subst (λ limit. Shows k limit [] false empty) h.hunk.holds.same_limit begins;
  receiver = inl refl;
}

-- ---- the current hunk

-- It takes something, and the next word goes elsewhere.
pub Holds-hunk : {A : Type 0} (b : UnitBuilder A) (k : UnitHunkSoFar A) (r : Receiver A) (told : EventValue) (hunk : Hunk) (goes : ToldReceiver) (context : SiteContext) (seen : List ℕ)
    → Holds b told context → Shows k context.position.limit seen (goes_to_content goes) hunk → Receives r goes
    → Holds (record b { hunk = k; receiver = r }) (record told { hunk = hunk; receiver = goes }) (record context { seen = seen })
Holds-hunk b k r told hunk goes context seen h shows receives = record { units = h.units; room = h.room; hunk = shows; receiver = receives }

-- A name is followed by a value, or by a number of offsets.
named-elsewhere : (named : Named) (words : List ℕ) → goes_to_content (receiver_of named words) ≡ false
named-elsewhere Symbol words = refl
named-elsewhere Offset words = refl
named-elsewhere Number words = refl
named-elsewhere Reference words = refl

pub Holds-named : {A E : Type 0} (b : UnitBuilder A) (k : UnitHunkSoFar A) (named : Named) (name : OpenName A) (more : ToldReceiver → HunkTables) (answer : Result (Unit {0}) E) (d : Unit {0}) (told : EventValue) (context : SiteContext)
    → answer ≡ Ok d → b.receiver ≡ Receiving.Name named name → ((words : List ℕ) → Opens name words → Takes b.hunk k answer (more (receiver_of named words))) → Holds b told context
    → Holds (record b { hunk = k; receiver = Receiving.Hunk }) (record told { hunk = with_tables told.hunk (more told.receiver); receiver = nothing_more }) context
Holds-named b k named name more answer d told context ok is takes h =
    let so_far = subst (λ r. Receives r told.receiver) is h.receiver in
    let limit = context.position.limit in
    let elsewhere : goes_to_content told.receiver ≡ false = ap goes_to_content so_far.goes_there ∙ named-elsewhere named so_far.words in
    let before : Shows b.hunk limit context.seen false told.hunk = subst (λ in_content. Shows b.hunk limit context.seen in_content told.hunk) elsewhere h.hunk in
    let after = subst (λ r. OnOk r (Shows k limit context.seen false (with_tables told.hunk (more (receiver_of named so_far.words))))) ok (takes so_far.words so_far.opens limit context.seen false told.hunk before) in
    Holds-hunk b k Receiving.Hunk told (with_tables told.hunk (more told.receiver)) nothing_more context context.seen h
    (subst (λ goes. Shows k limit context.seen false (with_tables told.hunk (more goes))) (sym so_far.goes_there) after) (inl refl)

-- A longword of a debug block.
pub Steps-debug_word : {A E : Type 0} (b : UnitBuilder A) (k : UnitHunkSoFar A) (answer : Result (Unit {0}) E) (w : ℕ) → b.receiver ≡ Receiving.Debug
    → OnOk answer (k ≡ record b.hunk { debug_info = record b.hunk.debug_info { debugs = on_last (λ ws. ws ++ (w ∷ [])) b.hunk.debug_info.debugs } }) → OnErr answer (k ≡ b.hunk)
    → Steps b (record b { hunk = k }) answer (Word w)
Steps-debug_word b k (Ok d) w is adds refused = λ told context h.
    let there : told.receiver ≡ to_debug = subst (λ r. Receives r told.receiver) is h.receiver in
    let s = h.hunk in
    let last = on_last (λ ws. ws ++ (w ∷ [])) in
    subst (λ t. Holds (record b { hunk = k }) (word_to t told w) context) (sym there)
    (Holds-hunk b k b.receiver told (record told.hunk { tables = record told.hunk.tables { debugs = last told.hunk.tables.debugs } }) told.receiver context context.seen h
    (subst (λ hunk. Shows hunk context.position.limit context.seen (goes_to_content told.receiver) (record told.hunk { tables = record told.hunk.tables { debugs = last told.hunk.tables.debugs } })) (sym adds) (record {
      name = s.name;
      kind = s.kind;
      memory = s.memory;
      size = s.size;
      content = s.content;
      sites = s.sites;
      holds = s.holds;
      words = s.words;
      references = s.references;
      definitions = s.definitions;
      symbols = s.symbols;
      debugs = ap last s.debugs;
    })) h.receiver)
Steps-debug_word b k (Err e) w is adds refused = λ told context h.
    Holds-hunk b k b.receiver told told.hunk told.receiver context context.seen h (subst (λ hunk. Shows hunk context.position.limit context.seen (goes_to_content told.receiver) told.hunk) (sym refused) h.hunk) h.receiver

-- ---- sites

with_sites-append : (es : List (ℕ × Adds)) (ss : List (ℕ × FileAdds)) (o : ℕ) (a : FileAdds) → with_sites es (ss ++ ((o, a) ∷ [])) ≡ insert_entry nat_cmp (with_sites es ss) o (adds_of a)
with_sites-append es [] o a = refl
with_sites-append es (s ∷ ss) o a = with_sites-append (insert_entry nat_cmp es s.0 (adds_of s.1)) ss o a

Shows-site : {A : Type 0} (hunk : UnitHunkSoFar A) (o limit : ℕ) (a : FileAdds) (seen : List ℕ) (in_content : Bool) (told : Hunk) → HoldsSites limit (o ∷ seen) (hunk_with_site hunk.partial o (adds_of a))
    → Shows hunk limit seen in_content told → Shows (record hunk { partial = hunk_with_site hunk.partial o (adds_of a) }) limit (o ∷ seen) in_content (with_tables told (one_site o a))
Shows-site hunk o limit a seen in_content told holds s = record {
  name = s.name;
  kind = s.kind;
  memory = s.memory;
  size = s.size;
  content = s.content;
  sites = ap (λ es. insert_entry nat_cmp es o (adds_of a)) s.sites ∙ sym (with_sites-append [] told.tables.sites o a);
  holds = holds;
  words = s.words;
  references = s.references ∙ sym (ap (λ xs. map name_of xs) (append-nil told.tables.references));
  definitions = s.definitions ∙ ap (λ xs. map (λ (d : List ℕ × FileDefinition). (name_of d.0, definition_of d.1)) xs) (sym (append-nil told.tables.definitions));
  symbols = s.symbols ∙ ap (λ xs. map (λ (s : List ℕ × ℕ). (name_of s.0, s.1)) xs) (sym (append-nil told.tables.symbols));
  debugs = s.debugs ∙ sym (append-nil told.tables.debugs);
}

-- A site is an event that the hunk takes; what it adds may depend on the hunk so far.
pub Steps-site : {A : Type 0} (b : UnitBuilder A) (k : UnitHunkSoFar A) (answer : Result (Unit {0}) SiteRefusal) (o : ℕ) (adds : Adds) (a : Hunk → FileAdds) (e : Event)
    → ((told : EventValue) → step told e ≡ record told { hunk = with_tables told.hunk (one_site o (a told.hunk)) }) → ((context : SiteContext) → context_with Object context e ≡ record context { seen = o ∷ context.seen })
    → ((limit : ℕ) (seen : List ℕ) (in_content : Bool) (told : Hunk) → Shows b.hunk limit seen in_content told → adds ≡ adds_of (a told))
    → OnOk answer (k ≡ record b.hunk { partial = hunk_with_site b.hunk.partial o adds }) → ((limit : ℕ) (seen : List ℕ) → HoldsSites limit seen b.hunk.partial → OnOk answer (HoldsSites limit (o ∷ seen) k.partial))
    → OnErr answer (k ≡ b.hunk) → Steps b (record b { hunk = k }) answer e
Steps-site {A = A} b k (Ok d) o adds a e steps seen_too same taken holds refused = λ told context h.
    let limit = context.position.limit in
    let in_content = goes_to_content told.receiver in
    let is = same limit context.seen in_content told.hunk h.hunk in
    let site = adds_of (a told.hunk) in
    let taken_is : k ≡ record b.hunk { partial = hunk_with_site b.hunk.partial o site } = taken ∙ ap (λ t. let hunk : UnitHunkSoFar A = record b.hunk { partial = hunk_with_site b.hunk.partial o t } in hunk) is in
    let held : HoldsSites limit (o ∷ context.seen) (hunk_with_site b.hunk.partial o site) = subst (λ (hunk : UnitHunkSoFar A). HoldsSites limit (o ∷ context.seen) hunk.partial) taken_is (holds limit context.seen h.hunk.holds) in
    let next : EventValue = record told { hunk = with_tables told.hunk (one_site o (a told.hunk)) } in
    subst (λ t. Holds (record b { hunk = k }) t (context_with Object context e)) (sym (steps told))
    (subst (Holds (record b { hunk = k }) next) (sym (seen_too context))
    (Holds-hunk b k b.receiver told next.hunk told.receiver context (o ∷ context.seen) h
    (subst (λ hunk. Shows hunk limit (o ∷ context.seen) in_content next.hunk) (sym taken_is) (Shows-site b.hunk o limit (a told.hunk) context.seen in_content told.hunk held h.hunk)) h.receiver))
Steps-site b k (Err r) o adds a e steps seen_too same taken holds refused = λ told context h.
    Holds-hunk b k b.receiver told told.hunk told.receiver context context.seen h (subst (λ hunk. Shows hunk context.position.limit context.seen (goes_to_content told.receiver) told.hunk) (sym refused) h.hunk) h.receiver

-- ---- the events of a builder

pub StandsFor-next : {A : Type 0} (b : UnitBuilder A) (told : List Event) (e : Event) → Holds b (step (value_of_events initial_object told) e) (context_with Object (context_of Object told) e) → StandsFor b (told ++ (e ∷ []))
StandsFor-next b told e h =
    subst (λ q. Holds b q (context_of Object (told ++ (e ∷ [])))) (sym (value_of_events-append initial_object told e))
    (subst (Holds b (step (value_of_events initial_object told) e)) (sym (context_after-append Object initial_context told e)) h)

pub takes-next : {A E : Type 0} (old new : UnitBuilder A) (answer : Result (Unit {0}) E) (e : Event) (told : List Event) → Steps old new answer e → StandsFor old told → OnOk answer (StandsFor new (told ++ (e ∷ [])))
takes-next old new (Ok d) e told steps h = StandsFor-next new told e (steps _ _ h)
takes-next old new (Err r) e told steps h = tt

pub refuses-next : {A E : Type 0} (old new : UnitBuilder A) (answer : Result (Unit {0}) E) (e : Event) (told : List Event) → Steps old new answer e → StandsFor old told → OnErr answer (StandsFor new told)
refuses-next old new (Ok d) e told steps h = tt
refuses-next old new (Err r) e told steps h = steps _ _ h

-- ---- a run of words

-- a hunk whose content has one more word
Shows-word : {A : Type 0} (h : UnitHunkSoFar A) (limit : ℕ) (seen : List ℕ) (in_content : Bool) (told : Hunk) (w : ℕ) → Shows h limit seen in_content told
    → Shows (record h { partial = hunk_with_word h.partial w }) limit seen in_content (record told { content = if in_content then told.content ++ (w ∷ []) else told.content })
Shows-word h limit seen in_content told w shows = record {
  name = shows.name;
  kind = shows.kind;
  memory = shows.memory;
  size = shows.size;
  content = go in_content shows.words;
  sites = shows.sites;
  holds = record { same_limit = shows.holds.same_limit; same_sites = shows.holds.same_sites };
  words = shows.words;
  references = shows.references;
  definitions = shows.definitions;
  symbols = shows.symbols;
  debugs = shows.debugs;
}
  where
    go : (kept : Bool) → h.partial.in_content ≡ kept → (hunk_with_word h.partial w).content ≡ bytes_of (if kept then told.content ++ (w ∷ []) else told.content)
    go true words = ap (λ p. p.content) (hunk_with_word-kept h.partial w words) ∙ ap (λ bytes. bytes ++ big_bytes 4 w) shows.content ∙ sym (bytes_of-append told.content w)
    go false words = ap (λ p. p.content) (hunk_with_word-dropped h.partial w words) ∙ shows.content

-- The hunk takes a word that nothing else takes, and keeps it if it is content.
Steps-word : {A : Type 0} (b : UnitBuilder A) (w : ℕ) → b.receiver ≡ Receiving.Hunk → Steps {E = AllocError} b (record b { hunk = record b.hunk { partial = hunk_with_word b.hunk.partial w } }) (Ok tt) (Word w)
Steps-word {A = A} b w is = λ built context held.
    let next = record b { hunk = record b.hunk { partial = hunk_with_word b.hunk.partial w } } in
    let receives : Receives b.receiver built.receiver = held.receiver in
    let shows = Shows-word b.hunk context.position.limit context.seen (goes_to_content built.receiver) built.hunk w held.hunk in
    go next built context built.receiver refl (subst (λ r. Receives r built.receiver) is receives)
    (record { units = held.units; room = held.room; hunk = shows; receiver = receives })
  where
    -- the events' value with the word, if it is content
    with_word : EventValue → ToldReceiver → EventValue
    with_word built t = record built { hunk = record built.hunk { content = if goes_to_content t then built.hunk.content ++ (w ∷ []) else built.hunk.content } }

    go : (next : UnitBuilder A) (built : EventValue) (context : SiteContext) (t : ToldReceiver) → built.receiver ≡ t → (t ≡ nothing_more) ⊎ (t ≡ to_content) → Holds next (with_word built built.receiver) context → Holds next (step built (Word w)) context
    go next built context t at (inl none) holds = subst (λ v. Holds next v context) (value (at ∙ none)) holds
      where
        value : built.receiver ≡ nothing_more → with_word built built.receiver ≡ word_to built.receiver built w
        value e = ap (λ r. with_word built r) e ∙ sym (ap (λ r. word_to r built w) e)
    go next built context t at (inr content) holds = subst (λ v. Holds next v context) (value (at ∙ content)) holds
      where
        value : built.receiver ≡ to_content → with_word built built.receiver ≡ word_to built.receiver built w
        value e = ap (λ r. with_word built r) e ∙ sym (ap (λ r. word_to r built w) e)

-- The hunk takes words that nothing else takes, and keeps their bytes if they are content.
pub StandsFor-bytes : {A : Type 0} (us : List ℕ) (b : UnitBuilder A) (told : List Event) → b.receiver ≡ Receiving.Hunk → StandsFor b told
    → StandsFor (record b { hunk = record b.hunk { partial = hunk_with_bytes b.hunk.partial (bytes_of us) } }) (told ++ word_events us)
StandsFor-bytes [] b told is h =
    subst (λ p. StandsFor (record b { hunk = record b.hunk { partial = p } }) (told ++ [])) (sym (hunk_with_bytes-none b.hunk.partial))
    (subst (λ es. StandsFor b es) (sym (append-nil told)) h)
StandsFor-bytes (u ∷ us) b told is h =
    let next = record b { hunk = record b.hunk { partial = hunk_with_word b.hunk.partial u } } in
    let rest = StandsFor-bytes us next (told ++ Word u ∷ []) is (takes-next {E = AllocError} b next (Ok tt) (Word u) told (Steps-word b u is) h) in
    subst (λ p. StandsFor (record b { hunk = record b.hunk { partial = p } }) (told ++ word_events (u ∷ us))) (hunk_with_bytes-more b.hunk.partial u (bytes_of us))
    (subst (λ es. StandsFor (record b { hunk = record b.hunk { partial = hunk_with_bytes (hunk_with_word b.hunk.partial u) (bytes_of us) } }) es) (append_assoc told (Word u ∷ []) (word_events us)) rest)

-- ---- a run of words of a name

values-append : (built : EventValue) (es ds : List Event) → value_of_events built (es ++ ds) ≡ value_of_events (value_of_events built es) ds
values-append built [] ds = refl
values-append built (e ∷ es) ds = values-append (step built e) es ds

context-append : (context : SiteContext) (es ds : List Event) → context_after Object context (es ++ ds) ≡ context_after Object (context_after Object context es) ds
context-append context [] ds = refl
context-append context (e ∷ es) ds = context-append (context_with Object context e) es ds

-- words say nothing of sites
context-words : (context : SiteContext) (us : List ℕ) → context_after Object context (word_events us) ≡ context
context-words context [] = refl
context-words context (u ∷ us) = context-words context us

-- a word goes to the name that is read
word-named : (named : Named) (words : List ℕ) (told : EventValue) (u : ℕ) → told.receiver ≡ receiver_of named words → step told (Word u) ≡ record told { receiver = receiver_of named (words ++ u ∷ []) }
word-named Symbol words told u is = ap (λ goes. word_to goes told u) is
word-named Offset words told u is = ap (λ goes. word_to goes told u) is
word-named Number words told u is = ap (λ goes. word_to goes told u) is
word-named Reference words told u is = ap (λ goes. word_to goes told u) is

words-named : (us : List ℕ) (named : Named) (words : List ℕ) (told : EventValue) → told.receiver ≡ receiver_of named words
    → value_of_events told (word_events us) ≡ record told { receiver = receiver_of named (words ++ us) }
words-named [] named words told is = ap (λ goes. record told { receiver = goes }) (is ∙ ap (receiver_of named) (sym (append-nil words)))
words-named (u ∷ us) named words told is =
    ap (λ built. value_of_events built (word_events us)) (word-named named words told u is)
    ∙ words-named us named (words ++ u ∷ []) (record told { receiver = receiver_of named (words ++ u ∷ []) }) refl
    ∙ ap (λ ws. record told { receiver = receiver_of named ws }) (append_assoc words (u ∷ []) us)

-- The name that is read takes words.
pub StandsFor-name : {A : Type 0} (us : List ℕ) (b : UnitBuilder A) (named : Named) (old new : OpenName A) (told : List Event) → b.receiver ≡ Receiving.Name named old
    → ((words : List ℕ) → Opens old words → Opens new (words ++ us)) → StandsFor b told → StandsFor (record b { receiver = Receiving.Name named new }) (told ++ word_events us)
StandsFor-name us b named old new told is takes h =
    let built = value_of_events initial_object told in
    let limit = (context_of Object told).position.limit in
    let so_far = subst (λ r. Receives r built.receiver) is h.receiver in
    let words = so_far.words ++ us in
    let elsewhere : goes_to_content built.receiver ≡ false = ap goes_to_content so_far.goes_there ∙ named-elsewhere named so_far.words in
    let value = values-append initial_object told (word_events us) ∙ words-named us named so_far.words built so_far.goes_there in
    let context = context-append initial_context told (word_events us) ∙ context-words (context_of Object told) us in
    subst (λ t. Holds (record b { receiver = Receiving.Name named new }) t (context_of Object (told ++ word_events us))) (sym value)
    (subst (Holds (record b { receiver = Receiving.Name named new }) (record built { receiver = receiver_of named words })) (sym context) (record {
      units = h.units;
      room = h.room;
      hunk = subst (λ in_content. Shows b.hunk limit (context_of Object told).seen in_content built.hunk) (elsewhere ∙ sym (named-elsewhere named words)) h.hunk;
      receiver = record { words = words; goes_there = refl; opens = takes so_far.words so_far.opens };
    }))

-- The name that is read takes nothing.
pub StandsFor-name_kept : {A : Type 0} (b : UnitBuilder A) (named : Named) (old new : OpenName A) (told : List Event) → b.receiver ≡ Receiving.Name named old
    → ((words : List ℕ) → Opens old words → Opens new words) → StandsFor b told → StandsFor (record b { receiver = Receiving.Name named new }) told
StandsFor-name_kept b named old new told is keeps h =
    let so_far = subst (λ r. Receives r (value_of_events initial_object told).receiver) is h.receiver in
    record {
      units = h.units;
      room = h.room;
      hunk = h.hunk;
      receiver = record { words = so_far.words; goes_there = so_far.goes_there; opens = keeps so_far.words so_far.opens };
    }
