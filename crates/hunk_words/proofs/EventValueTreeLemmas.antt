-- What the events of a whole file build is the value of its tree.
use Rattle.std.proofs.Common.{◌≡◌, ℕ, ◌-◌, ◌^◌, ◌<◌, List, [], ◌∷◌, ◌++◌, length, map, append_assoc, append-nil, refl, ap, sym, subst}
use Rattle.hunk_words.specs.Kinds.{Kind, Field, field, low, bits}
use Rattle.hunk_words.specs.FaultTable.{AllPass}
use Rattle.hunk_words.specs.Kinds.Kind.{object_start, unit_type, hunk_type, unit_length, word}
use Rattle.hunk_words.specs.Kinds.Within.{in_unit, in_load}
use Rattle.hunk_words.specs.Trees.{HunkTree, UnitTree, ObjectTree, LoadHunkTree, LoadTree}
use Rattle.hunk_words.specs.Spelling.{type_longword, each, unit_hunks, unit_at, units, object_spelling, sizes_at, load_hunks, load_spelling, ObjectFits, LoadFits}
use Rattle.hunk_words.specs.Event.{events}
use Rattle.hunk_words.specs.Values.{Hunk, Part, empty, hunk_value, unit_value, object_value, load_sizes, load_hunk_values}
use Rattle.hunk_words.specs.EventValue.{Receiver, EventValue, on_last, value_of_events, initial_object, initial_load}
use Rattle.hunk_words.specs.EventValue.Receiver.{nothing_more, to_unit_name}
use Rattle.hunk_words.proofs.SpellingBitLemmas.{type_longword-low, type_longword-bits}
use Rattle.hunk_words.proofs.EventValueLemmas.{Silent, value_of_events-silent, value_of_events-words, value_of_events-hunk, on_last-append}

-- ---- the hunks of a part

-- built so far: the parts before, and a part with this name and these hunks; no hunk has begun
abbrev pub in_part : List (ℕ × ℕ) → List Part → List ℕ → List Hunk → Receiver → EventValue
in_part s ps n hs r = record { parts = ps ++ (record { name = n; hunks = hs } ∷ []); sizes = s; hunk = empty; receiver = r }

-- with these hunks in the part, whatever the receiver, the fields after them build something with
-- the property
abbrev pub With : (EventValue → Type 0) → List (ℕ × ℕ) → List Part → List ℕ → List Hunk → List Field → Type 0
With Q s ps n hs rest = (r : Receiver) → AllPass rest → Q (value_of_events (in_part s ps n hs r) (events rest))

-- a hunk and then others
with-hunks : (Q : EventValue → Type 0) (s : List (ℕ × ℕ)) (ps : List Part) (n : List ℕ) (hs more : List Hunk) (h : Hunk) (rest : List Field)
    → With Q s ps n (hs ++ (h ∷ more)) rest → With Q s ps n ((hs ++ (h ∷ [])) ++ more) rest
with-hunks Q s ps n hs more h rest next = subst (λ q. With Q s ps n q rest) (sym (append_assoc hs (h ∷ []) more)) next

value_of_events-end : (Q : EventValue → Type 0) (s : List (ℕ × ℕ)) (ps : List Part) (n : List ℕ) (hs : List Hunk) (h : Hunk) (rest : List Field)
    → Q (value_of_events (in_part s ps n (hs ++ (h ∷ [])) nothing_more) (events rest))
    → Q (value_of_events (record { parts = on_last (λ p. record p { hunks = p.hunks ++ (h ∷ []) }) (ps ++ (record { name = n; hunks = hs } ∷ [])); sizes = s; hunk = empty; receiver = nothing_more }) (events rest))
value_of_events-end Q s ps n hs h rest next =
    subst (λ q. Q (value_of_events (record { parts = q; sizes = s; hunk = empty; receiver = nothing_more }) (events rest))) (sym (on_last-append (λ p. record p { hunks = p.hunks ++ (h ∷ []) }) ps (record { name = n; hunks = hs }))) next

value_of_events-unit-hunks : (xs : List HunkTree) (rest : List Field) (s : List (ℕ × ℕ)) (ps : List Part) (n : List ℕ) (hs : List Hunk) (r : Receiver) (Q : EventValue → Type 0)
    → AllPass (unit_hunks xs rest) → With Q s ps n (hs ++ map (λ x. hunk_value in_unit x) xs) rest
    → Q (value_of_events (in_part s ps n hs r) (events (unit_hunks xs rest)))
value_of_events-unit-hunks [] rest s ps n hs r Q p next = subst (λ q. With Q s ps n q rest) (append-nil hs) next r p
value_of_events-unit-hunks (x ∷ xs) rest s ps n hs r Q p next =
    value_of_events-hunk unit_type in_unit x.name x.body (unit_hunks xs rest) (in_part s ps n hs r) r Q (λ m. refl) p
    (λ q. value_of_events-end Q s ps n hs (hunk_value in_unit x) (unit_hunks xs rest)
    (value_of_events-unit-hunks xs rest s ps n (hs ++ (hunk_value in_unit x ∷ [])) nothing_more Q q (with-hunks Q s ps n hs (map (λ y. hunk_value in_unit y) xs) (hunk_value in_unit x) rest next)))

value_of_events-load-hunks : (last : ℕ) (xs : List LoadHunkTree) (rest : List Field) (s : List (ℕ × ℕ)) (ps : List Part) (n : List ℕ) (hs : List Hunk) (r : Receiver) (Q : EventValue → Type 0)
    → AllPass (load_hunks last xs rest) → With Q s ps n (hs ++ load_hunk_values last xs) rest
    → Q (value_of_events (in_part s ps n hs r) (events (load_hunks last xs rest)))
value_of_events-load-hunks last [] rest s ps n hs r Q p next = subst (λ q. With Q s ps n q rest) (append-nil hs) next r p
value_of_events-load-hunks last (x ∷ xs) rest s ps n hs r Q p next =
    value_of_events-hunk (hunk_type last x.size) (in_load last x.size) x.hunk.name x.hunk.body (load_hunks last xs rest) (in_part s ps n hs r) r Q (λ m. refl) p
    (λ q. value_of_events-end Q s ps n hs (hunk_value (in_load last x.size) x.hunk) (load_hunks last xs rest)
    (value_of_events-load-hunks last xs rest s ps n (hs ++ (hunk_value (in_load last x.size) x.hunk ∷ [])) nothing_more Q q (with-hunks Q s ps n hs (load_hunk_values last xs) (hunk_value (in_load last x.size) x.hunk) rest next)))

-- ---- object files

-- built so far: these parts; no hunk has begun
abbrev pub with_parts : List Part → Receiver → EventValue
with_parts ps r = record { parts = ps; sizes = []; hunk = empty; receiver = r }

value_of_events-unit : (k : Kind) (u : UnitTree) (rest : List Field) (ps : List Part) (r : Receiver) (Q : EventValue → Type 0)
    → Silent k → AllPass (unit_at k u rest) → ((t : Receiver) → AllPass rest → Q (value_of_events (with_parts (ps ++ (unit_value u ∷ [])) t) (events rest)))
    → Q (value_of_events (with_parts ps r) (events (unit_at k u rest)))
value_of_events-unit k u rest ps r Q silent p next =
    value_of_events-silent k (type_longword u.type_bits 999) (field unit_length (length u.name) ∷ each word u.name (unit_hunks u.hunks rest)) (with_parts ps r) Q silent
    (value_of_events-words (λ ws. in_part [] ps ws [] to_unit_name)
    (λ ws w. ap (λ q. with_parts q to_unit_name) (on_last-append (λ x. record x { name = x.name ++ (w ∷ []) }) ps (record { name = ws; hunks = [] })))
    [] u.name (unit_hunks u.hunks rest) Q p.1.1
    (λ q. value_of_events-unit-hunks u.hunks rest [] ps u.name [] to_unit_name Q q next))

value_of_events-units : (us : List UnitTree) (ps : List Part) (r : Receiver) (Q : EventValue → Type 0)
    → AllPass (units us []) → ((t : Receiver) → Q (with_parts (ps ++ map (λ u. unit_value u) us) t))
    → Q (value_of_events (with_parts ps r) (events (units us [])))
value_of_events-units [] ps r Q p next = subst (λ q. Q (with_parts q r)) (append-nil ps) (next r)
value_of_events-units (u ∷ us) ps r Q p next =
    value_of_events-unit unit_type u (units us []) ps r Q (λ m. refl) p
    (λ t q. value_of_events-units us (ps ++ (unit_value u ∷ [])) t Q q (λ s. subst (λ x. Q (with_parts x s)) (sym (append_assoc ps (unit_value u ∷ []) (map (λ y. unit_value y) us))) (next s)))

pub object-told : (t : ObjectTree) → ObjectFits t → (value_of_events initial_object (events (object_spelling t))).parts ≡ object_value t
object-told t p =
    value_of_events-unit object_start t.first (units t.others []) [] nothing_more (λ b. b.parts ≡ object_value t) (λ m. refl) p
    (λ r q. value_of_events-units t.others (unit_value t.first ∷ []) r (λ b. b.parts ≡ object_value t) q (λ s. refl))

-- ---- load files

type_longword-pair : (b n : ℕ) → type_longword b n < 2 ^ 32 → ◌≡◌ {A = ℕ × ℕ} (bits (type_longword b n), low (type_longword b n)) (b, n)
type_longword-pair b n h = rw (type_longword-bits b n h, type_longword-low b n h) refl

value_of_events-sizes : (last room : ℕ) (before : List ℕ) (xs : List LoadHunkTree) (rest : List Field) (s : List (ℕ × ℕ)) (Q : EventValue → Type 0)
    → AllPass (sizes_at last room before xs rest)
    → (AllPass rest → Q (value_of_events (in_part (s ++ map (λ x. (x.memory_bits, x.size)) xs) [] [] [] nothing_more) (events rest)))
    → Q (value_of_events (in_part s [] [] [] nothing_more) (events (sizes_at last room before xs rest)))
value_of_events-sizes last room before [] rest s Q p next = subst (λ q. Q (value_of_events (in_part q [] [] [] nothing_more) (events rest))) (append-nil s) (next p)
value_of_events-sizes last room before (x ∷ xs) rest s Q p next =
    subst (λ q. Q (value_of_events (in_part (s ++ (q ∷ [])) [] [] [] nothing_more) (events (sizes_at last (room - x.size) (x.size ∷ before) xs rest)))) (sym (type_longword-pair x.memory_bits x.size p.0.fits))
    (value_of_events-sizes last (room - x.size) (x.size ∷ before) xs rest (s ++ ((x.memory_bits, x.size) ∷ [])) Q p.1
    (λ q. subst (λ y. Q (value_of_events (in_part y [] [] [] nothing_more) (events rest))) (sym (append_assoc s ((x.memory_bits, x.size) ∷ []) (map (λ y. (y.memory_bits, y.size)) xs))) (next q)))

-- what a load file's builder has at the end
abbrev HasTold : LoadTree → EventValue → Type 0
HasTold t b = (b.sizes ≡ load_sizes t) × (b.parts ≡ record { name = []; hunks = load_hunk_values (length t.others) (t.first ∷ t.others) } ∷ [])

pub load-told : (t : LoadTree) → LoadFits t → HasTold t (value_of_events initial_load (events (load_spelling t)))
load-told t p =
    value_of_events-sizes (length t.others) (2 ^ 24) [] (t.first ∷ t.others) (load_hunks (length t.others) (t.first ∷ t.others) []) [] (λ b. HasTold t b) p.1.1.1.1.1
    (λ q. value_of_events-load-hunks (length t.others) (t.first ∷ t.others) [] (load_sizes t) [] [] [] nothing_more (λ b. HasTold t b) q (λ r u. (refl, refl)))
