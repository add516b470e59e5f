-- Debug blocks that are copied one by one.
use Rattle.std.proofs.Common.{◌≡◌, ℕ, ◌+◌, ◌<◌, List, [], ◌∷◌, ◌++◌, Vec, length, take, get_or, ap, sym, ◌∙◌}
use Rattle.std.proofs.lemmas.List.{map_push, take-map, take_more}
use Rattle.hunk_words.specs.DebugInfo.{lists_of}

lists_of-take : {A T : Type 0} (vecs : List (Vec T A)) (i : ℕ) → take i (lists_of vecs) ≡ lists_of (take i vecs)
lists_of-take vecs i = take-map (λ v. v.items) i vecs

pub lists_of-more : {A B T : Type 0} (copies : List (Vec T B)) (vecs : List (Vec T A)) (i : ℕ) (copy : Vec T B) (vec : Vec T A) → i < length vecs → lists_of copies ≡ take i (lists_of vecs)
    → vec ≡ get_or vecs i vec → copy.items ≡ vec.items → lists_of (copies ++ (copy ∷ [])) ≡ take (i + 1) (lists_of vecs)
lists_of-more copies vecs i copy vec within so_far is same =
    map_push (λ v. v.items) copies copy
    ∙ ap (λ ls. ls ++ (copy.items ∷ [])) (so_far ∙ lists_of-take vecs i)
    ∙ ap (λ l. lists_of (take i vecs) ++ (l ∷ [])) same
    ∙ sym (map_push (λ v. v.items) (take i vecs) vec)
    ∙ ap (λ v. lists_of (take i vecs ++ (v ∷ []))) is
    ∙ ap lists_of (sym (take_more vecs i vec within))
    ∙ sym (lists_of-take vecs (i + 1))
