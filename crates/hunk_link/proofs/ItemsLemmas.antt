-- What hunks have, hunk by hunk.
use Rattle.std.proofs.Common.{◌≡◌, ℕ, ◌+◌, ◌<◌, List, [], ◌∷◌, ◌++◌, length, get_or, take, drop, sym, ap, ◌∙◌}
use Rattle.std.proofs.lemmas.Grind.{flat_map-append}
use Rattle.std.proofs.lemmas.List.{at_drop_more, flat_map_more, map-append, map_more, take-append-drop, take_more}
use Rattle.std.specs.List.{flat_map}
use Rattle.hunk_objects.specs.UnitHunk.{ObjectHunk}
use Rattle.hunk_link.specs.Ranks.{IsAt, RankedHunk, all_items, items_of}

-- the hunks from one on have what it has, and what those behind it have
pub all_items-next : {T : Type 0} (items : ObjectHunk → List T) (hunks : List RankedHunk) (i : ℕ) (ranked : RankedHunk)
    → i < length hunks → ranked ≡ get_or hunks i ranked
    → all_items items (drop i hunks) ≡ items_of items ranked ++ all_items items (drop (i + 1) hunks)
all_items-next items hunks i ranked within is =
    at_drop_more (all_items items) hunks i ranked within ∙ ap (λ r. items_of items r ++ all_items items (drop (i + 1) hunks)) (sym is)

-- the same of one hunk's items
pub items_of-next : {T : Type 0} (ranked : RankedHunk) (xs : List T) (i : ℕ) (x : T)
    → i < length xs → x ≡ get_or xs i x
    → items_of (λ _. drop i xs) ranked ≡ (ranked, x) ∷ items_of (λ _. drop (i + 1) xs) ranked
items_of-next ranked xs i x within is =
    at_drop_more (λ left. items_of (λ _. left) ranked) xs i x within ∙ ap (λ y. (ranked, y) ∷ items_of (λ _. drop (i + 1) xs) ranked) (sym is)

pub IsAt-same : (one other : RankedHunk) → one ≡ other → IsAt one.unit one.number other
IsAt-same one other same = record { unit_is = ap (λ (r : RankedHunk). r.unit) (sym same); number_is = ap (λ (r : RankedHunk). r.number) (sym same) }

-- one more of a hunk's items
pub items_of-more : {T : Type 0} (ranked : RankedHunk) (xs : List T) (i : ℕ) (x : T)
    → i < length xs → x ≡ get_or xs i x
    → items_of (λ _. take (i + 1) xs) ranked ≡ items_of (λ _. take i xs) ranked ++ (ranked, x) ∷ []
items_of-more {T} ranked xs i x within is =
    map_more (λ (y : T). (ranked, y)) xs i x within ∙ ap (λ y. items_of (λ _. take i xs) ranked ++ (ranked, y) ∷ []) (sym is)

-- an item between those before it and those behind it
pub items_of-around : {T : Type 0} (ranked : RankedHunk) (xs : List T) (i : ℕ) (x : T)
    → i < length xs → x ≡ get_or xs i x
    → items_of (λ _. take i xs) ranked ++ ((ranked, x) ∷ items_of (λ _. drop (i + 1) xs) ranked) ≡ items_of (λ _. xs) ranked
items_of-around {T} ranked xs i x within is =
    ap (λ left. items_of (λ _. take i xs) ranked ++ left) (sym (items_of-next ranked xs i x within is))
    ∙ sym (map-append (λ (y : T). (ranked, y)) (take i xs) (drop i xs)) ∙ ap (λ ys. items_of (λ _. ys) ranked) (take-append-drop i xs)

-- what one more element adds
pub flat_map-more : {X Y : Type 0} (f : X → List Y) (xs : List X) (i : ℕ) (x : X)
    → i < length xs → x ≡ get_or xs i x → flat_map f (take (i + 1) xs) ≡ flat_map f (take i xs) ++ f x
flat_map-more f xs i x within is =
    ap (flat_map f) (take_more xs i x within) ∙ sym (flat_map_more f [] (take i xs) (get_or xs i x)) ∙ ap (λ y. flat_map f (take i xs) ++ f y) (sym is)

-- the items of the hunks up to one, and of those behind it
pub all_items-around : {T : Type 0} (items : ObjectHunk → List T) (hunks : List RankedHunk) (i : ℕ) (ranked : RankedHunk)
    → i < length hunks → ranked ≡ get_or hunks i ranked
    → (all_items items (take i hunks) ++ items_of items ranked) ++ all_items items (drop (i + 1) hunks) ≡ all_items items hunks
all_items-around items hunks i ranked within is =
    ap (λ front. front ++ all_items items (drop (i + 1) hunks)) (sym (flat_map-more (items_of items) hunks i ranked within is))
    ∙ sym (flat_map-append (items_of items) (take (i + 1) hunks) (drop (i + 1) hunks)) ∙ ap (all_items items) (take-append-drop (i + 1) hunks)
