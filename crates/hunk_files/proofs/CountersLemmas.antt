-- What a taker that checks sites and counts holds, after one more event and at the end of a file.
use Rattle.std.proofs.Common.{◌≡◌, ℕ, suc, ◌+◌, ◌-◌, ◌*◌, ◌^◌, min, slice_index, ◌<◌, ◌≤◌, List, [], ◌∷◌, ◌++◌, length, length-append, append-nil, append_assoc, refl, sym, ap, ◌∙◌, subst, sum_by, arith}
use Rattle.std.proofs.lemmas.List.{length-map}
use Rattle.std.proofs.lemmas.List.Sums.{sum_by-cons, sum_by_push}
use Rattle.hunk_words.specs.Event.{events, word_events}
use Rattle.hunk_words.specs.EventValue.{EventValue, Receiver, initial_load, initial_object, on_last, step, value_of_events, word_to}
use Rattle.hunk_words.specs.EventValue.Receiver.{nothing_more, to_unit_name, to_name, to_content, to_debug, to_symbol, to_entry}
use Rattle.hunk_words.specs.PartialHunk.{HoldsContext, HoldsSites}
use Rattle.hunk_words.specs.Spelling.{LoadFits, ObjectFits, load_spelling, object_spelling}
use Rattle.hunk_words.specs.Taker.{context_of}
use Rattle.hunk_words.specs.Trees.{LoadTree, ObjectTree}
use Rattle.hunk_words.specs.Values.{Part, object_value}
use Rattle.hunk_objects.specs.ProgramUnit.{hunk_count, object_unit, object_units}
use Rattle.hunk_objects.specs.UnitHunk.{object_hunk}
use Rattle.hunk_loadfile.specs.LoadFile.{load_hunk_value, load_value}
use Rattle.hunk_words.specs.SiteContext.{SiteContext, initial_context, context_after, context_with, content_limit}
use Rattle.hunk_words.specs.declared.event.Event.{Event}
use Rattle.hunk_words.specs.declared.event.Event.TheVariants as event_is
use Rattle.hunk_words.specs.declared.event.FileKind.{FileKind}
use Rattle.hunk_words.specs.declared.event.FileKind.TheVariants.{Object, Load}
use Rattle.hunk_words.specs.declared.kinds.HunkKind.{HunkKind}
use Rattle.hunk_words.specs.declared.kinds.HunkKind.TheVariants.{Bss}
use Rattle.hunk_words.proofs.TakerLemmas.{context_after-append, value_of_events-append}
use Rattle.hunk_words.proofs.EventValueTreeLemmas.{load-told, object-told}
use Rattle.hunk_files.specs.Counters.{LoadHolds, LoadStandsFor, ObjectHolds, ObjectStandsFor, hunk_total}
use Rattle.hunk_files.specs.declared.counters.LoadCounter.{LoadCounter}
use Rattle.hunk_files.specs.declared.counters.ObjectCounter.{ObjectCounter}

-- what holds after an event, by what held before it
pub holds-one : (P : SiteContext → Type 0) (file : FileKind) (told : List Event) (e : Event) → P (context_with file (context_of file told) e) → P (context_of file (told ++ e ∷ []))
holds-one P file told e p = subst P (sym (context_after-append file initial_context told e)) p

-- an object file's limit depends on its own size
pub content_limit-any : (header : ℕ) (c : HunkKind) (size : ℕ) → content_limit Object 0 c size ≡ content_limit Object header c size
content_limit-any header Bss size = refl
content_limit-any header c size = refl

-- ---- events that are neither sites nor a limit

abbrev pub IsQuiet : Event → Type 0
IsQuiet (event_is.Content kind bits size) = ⊥
IsQuiet (event_is.Site offset target) = ⊥
IsQuiet (event_is.RefSite offset) = ⊥
IsQuiet event_is.HunkEnd = ⊥
IsQuiet e = Unit {0}

pub quiet-other : (e : Event) → ((k b s : ℕ) → e ≡ event_is.Content k b s → ⊥) → ((o t : ℕ) → e ≡ event_is.Site o t → ⊥) → ((o : ℕ) → e ≡ event_is.RefSite o → ⊥)
    → (e ≡ event_is.HunkEnd → ⊥) → IsQuiet e
quiet-other (event_is.Content k b s) content site ref ends = content k b s refl
quiet-other (event_is.Site o t) content site ref ends = site o t refl
quiet-other (event_is.RefSite o) content site ref ends = ref o refl
quiet-other event_is.HunkEnd content site ref ends = ends refl
quiet-other e content site ref ends = tt

pub quiet-seen : (file : FileKind) (v : SiteContext) (e : Event) → IsQuiet e → (P : (limit : ℕ) → List ℕ → Type 0) → P v.position.limit v.seen
    → P (context_with file v e).position.limit (context_with file v e).seen
quiet-seen file v (event_is.Content k b s) quiet P p = absurd quiet
quiet-seen file v (event_is.Site o t) quiet P p = absurd quiet
quiet-seen file v (event_is.RefSite o) quiet P p = absurd quiet
quiet-seen file v event_is.HunkEnd quiet P p = absurd quiet
quiet-seen file v e quiet P p = p

-- an event that is not a size in the header either changes nothing
pub quiet-watch : (file : FileKind) (v : SiteContext) (e : Event) → IsQuiet e → ((b s : ℕ) → e ≡ event_is.HunkSize b s → ⊥) → context_with file v e ≡ v
quiet-watch file v (event_is.Content k b s) quiet header = absurd quiet
quiet-watch file v (event_is.Site o t) quiet header = absurd quiet
quiet-watch file v (event_is.RefSite o) quiet header = absurd quiet
quiet-watch file v event_is.HunkEnd quiet header = absurd quiet
quiet-watch file v (event_is.HunkSize b s) quiet header = absurd (header b s refl)
quiet-watch file v e quiet header = refl

-- what a load file's taker stands for after an event
pub stands-one : {A : Type 0} (told : List Event) (e : Event) (counter : LoadCounter A) → LoadHolds (context_with Load (context_of Load told) e) counter
    → counter.ended ≤ length told + 1 → LoadStandsFor counter (told ++ e ∷ [])
stands-one told e counter holds few = record {
  holds = holds-one (λ w. LoadHolds w counter) Load told e holds;
  few = rw (length-append told (e ∷ [])) few;
}

-- the limit for a load file's hunk
pub limit-told : {A : Type 0} (v : SiteContext) (counter : LoadCounter A) (n : ℕ) → LoadHolds v counter → n ≡ slice_index counter.sizes.items counter.ended → 4 * n ≡ 4 * slice_index v.position.sizes v.position.ended
limit-told v counter n holds is = rw (is, holds.same_sizes, holds.same_ended) refl

-- one more hunk that has ended
pub ended-one : (before told after count : ℕ) → before ≡ told → before ≤ count → count < 2 ^ 29 → after ≡ min (before + 1) (2 ^ 64 - 1) → (after ≡ suc told) × (after ≤ count + 1)
ended-one before told after count same few count_few is = (omega arith, omega arith)

-- ---- the numbers of units and of their hunks

length-on_last : {A : Type 0} (f : A → A) (xs : List A) → length (on_last f xs) ≡ length xs
length-on_last f [] = refl
length-on_last f (x ∷ []) = refl
length-on_last f (x ∷ y ∷ xs) = ap suc (length-on_last f (y ∷ xs))

-- the last part has other hunks
total-on_last : (f : Part → Part) (more : ℕ) → ((p : Part) → length (f p).hunks ≡ length p.hunks + more) → (ps : List Part) → 0 < length ps → hunk_total (on_last f ps) ≡ hunk_total ps + more
total-on_last f more adds [] some = absurd (omega (arith, some))
total-on_last f more adds (p ∷ []) some = let one : 0 + length (f p).hunks ≡ 0 + length p.hunks + more = omega (arith, adds p) in one
total-on_last f more adds (p ∷ q ∷ ps) some =
    let rest = total-on_last f more adds (q ∷ ps) (omega arith) in
    let before : hunk_total (p ∷ q ∷ ps) ≡ length p.hunks + hunk_total (q ∷ ps) = sum_by-cons (λ part. length part.hunks) p (q ∷ ps) in
    let after : hunk_total (p ∷ on_last f (q ∷ ps)) ≡ length p.hunks + hunk_total (on_last f (q ∷ ps)) = sum_by-cons (λ part. length part.hunks) p (on_last f (q ∷ ps)) in
    omega (arith, rest, before, after)

-- the last part has another name
total-renamed : (f : Part → Part) → ((p : Part) → (f p).hunks ≡ p.hunks) → (ps : List Part) → hunk_total (on_last f ps) ≡ hunk_total ps
total-renamed f same [] = refl
total-renamed f same (p ∷ []) = ap (λ hunks. 0 + length hunks) (same p)
total-renamed f same (p ∷ q ∷ ps) =
    let rest = total-renamed f same (q ∷ ps) in
    let before : hunk_total (p ∷ q ∷ ps) ≡ length p.hunks + hunk_total (q ∷ ps) = sum_by-cons (λ part. length part.hunks) p (q ∷ ps) in
    let after : hunk_total (p ∷ on_last f (q ∷ ps)) ≡ length p.hunks + hunk_total (on_last f (q ∷ ps)) = sum_by-cons (λ part. length part.hunks) p (on_last f (q ∷ ps)) in
    omega (arith, rest, before, after)

-- as many units and hunks
abbrev pub AsMany : EventValue → EventValue → Type 0
AsMany before after = (length after.parts ≡ length before.parts) × (hunk_total after.parts ≡ hunk_total before.parts)

as_many-word : (r : Receiver) (built : EventValue) (w : ℕ) → AsMany built (word_to r built w)
as_many-word nothing_more built w = (refl, refl)
as_many-word to_unit_name built w = (length-on_last _ built.parts, total-renamed _ (λ p. refl) built.parts)
as_many-word to_name built w = (refl, refl)
as_many-word to_content built w = (refl, refl)
as_many-word to_debug built w = (refl, refl)
as_many-word (to_symbol ws) built w = (refl, refl)
as_many-word (to_entry t ws) built w = (refl, refl)

-- an event that begins no unit and ends no hunk
pub as_many : (built : EventValue) (e : Event) → (e ≡ event_is.Unit → ⊥) → (e ≡ event_is.HunkEnd → ⊥) → AsMany built (step built e)
as_many built event_is.Unit unit ends = absurd (unit refl)
as_many built event_is.HunkEnd unit ends = absurd (ends refl)
as_many built (event_is.Word w) unit ends = as_many-word built.receiver built w
as_many built e unit ends = (refl, refl)

-- what an object file's taker stands for after an event
pub stands-next : {A : Type 0} (told : List Event) (e : Event) (counter : ObjectCounter A)
    → ObjectHolds (step (value_of_events initial_object told) e) (context_with Object (context_of Object told) e) counter
    → counter.units + counter.hunks ≤ length told + 1 → ObjectStandsFor counter (told ++ e ∷ [])
stands-next told e counter holds few = record {
  holds = subst (λ built. ObjectHolds built (context_of Object (told ++ e ∷ [])) counter) (sym (value_of_events-append initial_object told e))
      (holds-one (λ context. ObjectHolds (step (value_of_events initial_object told) e) context counter) Object told e holds);
  few = rw (length-append told (e ∷ [])) few;
}

-- an event that begins no unit and ends no hunk
pub stands-kept : {A : Type 0} (told : List Event) (e : Event) (old new : ObjectCounter A) → (e ≡ event_is.Unit → ⊥) → (e ≡ event_is.HunkEnd → ⊥) → ObjectStandsFor old told
    → new.units ≡ old.units → new.hunks ≡ old.hunks → HoldsContext (context_with Object (context_of Object told) e) new.hunk → ObjectStandsFor new (told ++ e ∷ [])
stands-kept told e old new unit ends stands units hunks holds =
    let many = as_many (value_of_events initial_object told) e unit ends in
    stands-next told e new (record {
      same_units = units ∙ stands.holds.same_units ∙ sym many.0;
      same_hunks = hunks ∙ stands.holds.same_hunks ∙ sym many.1;
      holds_hunk = holds;
    }) (omega (arith, units, hunks, stands.few))

-- a unit begins
pub stands-unit : {A : Type 0} (told : List Event) (old new : ObjectCounter A) → ObjectStandsFor old told → new.units ≡ suc old.units → new.hunks ≡ old.hunks → new.hunk ≡ old.hunk
    → ObjectStandsFor new (told ++ event_is.Unit ∷ [])
stands-unit told old new stands units hunks same =
    let parts = (value_of_events initial_object told).parts in
    let part : Part = record { name = []; hunks = [] } in
    let count : length (parts ++ part ∷ []) ≡ length parts + 1 = length-append parts (part ∷ []) in
    let total : hunk_total (parts ++ part ∷ []) ≡ hunk_total parts + 0 = sum_by_push (λ p. length p.hunks) parts part in
    stands-next told event_is.Unit new (record {
      same_units = omega (arith, units, stands.holds.same_units, count);
      same_hunks = omega (arith, hunks, stands.holds.same_hunks, total);
      holds_hunk = subst (HoldsContext (context_of Object told)) (sym same) stands.holds.holds_hunk;
    }) (omega (arith, units, hunks, stands.few))

-- a hunk ends
pub stands-end : {A : Type 0} (told : List Event) (old new : ObjectCounter A) → ObjectStandsFor old told → 0 < old.units → new.units ≡ old.units → new.hunks ≡ suc old.hunks
    → HoldsSites (context_of Object told).position.limit [] new.hunk → ObjectStandsFor new (told ++ event_is.HunkEnd ∷ [])
stands-end told old new stands begun units hunks holds =
    let built = value_of_events initial_object told in
    let add : Part → Part = λ p. record p { hunks = p.hunks ++ (built.hunk ∷ []) } in
    let total = total-on_last add 1 (λ p. length-append p.hunks (built.hunk ∷ [])) built.parts (omega (arith, begun, stands.holds.same_units)) in
    stands-next told event_is.HunkEnd new (record {
      same_units = units ∙ stands.holds.same_units ∙ sym (length-on_last add built.parts);
      same_hunks = omega (arith, hunks, stands.holds.same_hunks, total);
      holds_hunk = holds;
    }) (omega (arith, units, hunks, stands.few))

-- ---- words, which are not kept

-- of anything that holds after one more word
pub stands-words : (Stands : List Event → Type 0) → ((told : List Event) (w : ℕ) → length told < 2 ^ 29 → Stands told → Stands (told ++ event_is.Word w ∷ []))
    → (us : List ℕ) (told : List Event) → length told + length us < 2 ^ 29 → Stands told → Stands (told ++ word_events us)
stands-words Stands one [] told few stands = subst Stands (sym (append-nil told)) stands
stands-words Stands one (u ∷ us) told few stands =
    subst Stands (append_assoc told (event_is.Word u ∷ []) (word_events us))
    (stands-words Stands one us (told ++ event_is.Word u ∷ []) (omega (arith, few, length-append told (event_is.Word u ∷ []))) (one told u (omega (arith, few)) stands))

pub object-words : {A : Type 0} (counter : ObjectCounter A) (told : List Event) (us : List ℕ) → length told + length us < 2 ^ 29 → ObjectStandsFor counter told → ObjectStandsFor counter (told ++ word_events us)
object-words counter told us few stands =
    stands-words (ObjectStandsFor counter) (λ before w room holds. stands-kept before (event_is.Word w) counter counter (λ e. absurd (cc)) (λ e. absurd (cc)) holds refl refl holds.holds.holds_hunk) us told few stands

pub load-words : {A : Type 0} (counter : LoadCounter A) (told : List Event) (us : List ℕ) → length told + length us < 2 ^ 29 → LoadStandsFor counter told → LoadStandsFor counter (told ++ word_events us)
load-words counter told us few stands =
    stands-words (LoadStandsFor counter) (λ before w room holds. stands-one before (event_is.Word w) counter holds.holds (omega (arith, holds.few))) us told few stands

-- ---- at the end of a file

total-units : (parts : List Part) → sum_by hunk_count (object_units parts) ≡ hunk_total parts
total-units [] = refl
total-units (p ∷ ps) =
    let rest = total-units ps in
    let of_units : sum_by hunk_count (object_units (p ∷ ps)) ≡ hunk_count (object_unit p) + sum_by hunk_count (object_units ps) = sum_by-cons hunk_count (object_unit p) (object_units ps) in
    let of_parts : hunk_total (p ∷ ps) ≡ length p.hunks + hunk_total ps = sum_by-cons (λ part. length part.hunks) p ps in
    let here : hunk_count (object_unit p) ≡ length p.hunks = length-map p.hunks object_hunk in
    omega (arith, rest, of_units, of_parts, here)

-- the counts of units that are read
pub units-counted : {A : Type 0} (counter : ObjectCounter A) (t : ObjectTree) → ObjectFits t → ObjectStandsFor counter (events (object_spelling t))
    → (counter.units ≡ length (object_units (object_value t))) × (counter.hunks ≡ sum_by hunk_count (object_units (object_value t)))
units-counted counter t fits stands =
    let parts = object-told t fits in
    (stands.holds.same_units ∙ ap length parts ∙ sym (length-map (object_value t) object_unit), stands.holds.same_hunks ∙ ap hunk_total parts ∙ sym (total-units (object_value t)))

-- the sizes that a load file's taker is told are those of its value
sizes-one : (v : SiteContext) (built : EventValue) (e : Event) → length v.position.sizes ≡ length built.sizes → length (context_with Load v e).position.sizes ≡ length (step built e).sizes
sizes-one v built (event_is.HunkSize bits size) same = omega (arith, same, length-append v.position.sizes (size ∷ []), length-append built.sizes ((bits, size) ∷ []))
sizes-one v built (event_is.Word w) same = same ∙ sym (sizes-word built.receiver built w)
  where
    sizes-word : (r : Receiver) (b : EventValue) (w : ℕ) → length (word_to r b w).sizes ≡ length b.sizes
    sizes-word nothing_more b w = refl
    sizes-word to_unit_name b w = refl
    sizes-word to_name b w = refl
    sizes-word to_content b w = refl
    sizes-word to_debug b w = refl
    sizes-word (to_symbol ws) b w = refl
    sizes-word (to_entry t ws) b w = refl
sizes-one v built e same = same

sizes-all : (v : SiteContext) (built : EventValue) (es : List Event) → length v.position.sizes ≡ length built.sizes → length (context_after Load v es).position.sizes ≡ length (value_of_events built es).sizes
sizes-all v built [] same = same
sizes-all v built (e ∷ es) same = sizes-all (context_with Load v e) (step built e) es (sizes-one v built e same)

-- the count of hunks that are read
pub hunks-counted : {A : Type 0} (counter : LoadCounter A) (t : LoadTree) → LoadFits t → LoadStandsFor counter (events (load_spelling t)) → length counter.sizes.items ≡ length (load_value t)
hunks-counted counter t fits stands =
    let told = load-told t fits in
    let trees = t.first ∷ t.others in
    ap length stands.holds.same_sizes
    ∙ sizes-all initial_context initial_load (events (load_spelling t)) refl
    ∙ ap length told.0
    ∙ length-map trees (λ hunk. (hunk.memory_bits, hunk.size))
    ∙ sym (length-map trees (λ hunk. load_hunk_value (length t.others) hunk))
