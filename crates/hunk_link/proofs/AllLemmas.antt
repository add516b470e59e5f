-- What holds of all elements of lists that are joined or mapped.
use Rattle.std.proofs.Common.{List, [], ◌∷◌, ◌++◌, map, subst, arith}
use Rattle.std.specs.List.{All, flat_map}
use Rattle.std.proofs.lemmas.List.{get_or-map, length-map}
use Rattle.std.proofs.lemmas.List.Elements.{All-append, All-cons, All-head, All-nil, All-tail}

pub All-parts : {X : Type 0} (P : X → Type 0) (xs ys : List X) → All P (xs ++ ys) → All P xs × All P ys
All-parts P [] ys all = (All-nil P, all)
All-parts P (x ∷ xs) ys all =
    let rest = All-parts P xs ys (All-tail P x (xs ++ ys) all) in
    (All-cons P x xs (All-head P x (xs ++ ys) all) rest.0, rest.1)

pub All-flat_map : {X Y : Type 0} (P : Y → Type 0) (f : X → List Y) (xs : List X) → All (λ x. All P (f x)) xs → All P (flat_map f xs)
All-flat_map P f [] all = All-nil P
All-flat_map {X} P f (x ∷ xs) all =
    let Each : X → Type 0 = λ y. All P (f y) in
    All-append P (f x) (flat_map f xs) (All-head Each x xs all) (All-flat_map P f xs (All-tail Each x xs all))

pub All-flat_map-parts : {X Y : Type 0} (P : Y → Type 0) (f : X → List Y) (xs : List X) → All P (flat_map f xs) → All (λ x. All P (f x)) xs
All-flat_map-parts P f [] all = All-nil (λ x. All P (f x))
All-flat_map-parts P f (x ∷ xs) all =
    let parts = All-parts P (f x) (flat_map f xs) all in
    All-cons (λ y. All P (f y)) x xs parts.0 (All-flat_map-parts P f xs parts.1)

pub All-map-parts : {X Y : Type 0} (P : Y → Type 0) (f : X → Y) (xs : List X) → All P (map f xs) → All (λ x. P (f x)) xs
All-map-parts P f xs all = λ k d within. subst P (get_or-map f xs k d (f d) within) (all k (f d) (omega (arith, length-map xs f)))
