-- Lists whose elements are changed, one after another or all at once.
use Rattle.std.proofs.Common.{◌≡◌, ◌≤◌, ◌<◌, ◌+◌, ◌++◌, ◌∙◌, ℕ, zero, suc, List, [], ◌∷◌, length, map, take, drop, set, get_or, append-nil, refl, sym, ap, sum, sum_by, arith}
use Rattle.std.specs.List.{All}
use Rattle.std.proofs.Math.Path.{fun_ext}
use Rattle.std.proofs.lemmas.List.{drop_all, take_all}
use Rattle.std.proofs.lemmas.List.Elements.{All-head, All-tail}
use Rattle.std.proofs.lemmas.List.Sums.{sum-map}

module _ {X : Type 0} (f : X → X) where
  -- the first elements are changed
  abbrev pub mapped_to : ℕ → List X → List X
  mapped_to count xs = map f (take count xs) ++ drop count xs

  -- the next one is not
  pub mapped_to-at : (xs : List X) (i : ℕ) (d : X) → i < length xs → get_or (mapped_to i xs) i d ≡ get_or xs i d
  mapped_to-at [] i d low = absurd (omega arith)
  mapped_to-at (x ∷ xs) zero d low = refl
  mapped_to-at (x ∷ xs) (suc i) d low = mapped_to-at xs i d (omega arith)

  mapped_to-set : (xs : List X) (i : ℕ) (d : X) → i < length xs → set (mapped_to i xs) i (f (get_or xs i d)) ≡ mapped_to (suc i) xs
  mapped_to-set [] i d low = absurd (omega arith)
  mapped_to-set (x ∷ xs) zero d low = refl
  mapped_to-set (x ∷ xs) (suc i) d low = ap (λ ys. f x ∷ ys) (mapped_to-set xs i d (omega arith))

  -- until it is changed too
  pub mapped_to-more : (xs so_far : List X) (i : ℕ) (d new : X) → i < length xs → so_far ≡ mapped_to i xs → new ≡ f (get_or so_far i d) → set so_far i new ≡ mapped_to (i + 1) xs
  mapped_to-more xs so_far i d new low is changed =
      let same : get_or so_far i d ≡ get_or xs i d = ap (λ ys. get_or ys i d) is ∙ mapped_to-at xs i d low in
      let next : suc i ≡ i + 1 = omega arith in
      ap (set so_far i) (changed ∙ ap f same) ∙ ap (λ ys. set ys i (f (get_or xs i d))) is ∙ mapped_to-set xs i d low ∙ ap (λ count. mapped_to count xs) next

  pub mapped_to-all : (xs : List X) (count : ℕ) → length xs ≤ count → mapped_to count xs ≡ map f xs
  mapped_to-all xs count all = rw (take_all count xs all, drop_all count xs all) (append-nil (map f xs))

-- ---- all at once

pub map-map : {X Y Z : Type 0} (f : X → Y) (g : Y → Z) (xs : List X) → map g (map f xs) ≡ map (λ x. g (f x)) xs
map-map f g [] = refl
map-map f g (x ∷ xs) = ap (λ ys. g (f x) ∷ ys) (map-map f g xs)

pub map-same : {X Y : Type 0} (f g : X → Y) → ((x : X) → f x ≡ g x) → (xs : List X) → map f xs ≡ map g xs
map-same f g same xs = ap (λ h. map h xs) (fun_ext same)

-- the same of the elements of this list
pub map-alike : {X Y : Type 0} (P : X → Type 0) (f g : X → Y) → ((x : X) → P x → f x ≡ g x) → (xs : List X) → All P xs → map f xs ≡ map g xs
map-alike P f g same [] all = refl
map-alike P f g same (x ∷ xs) all = ap (λ y. y ∷ map f xs) (same x (All-head P x xs all)) ∙ ap (λ ys. g x ∷ ys) (map-alike P f g same xs (All-tail P x xs all))

pub sum_by-map : {X Y : Type 0} (f : X → Y) (count : Y → ℕ) (xs : List X) → sum_by count (map f xs) ≡ sum_by (λ x. count (f x)) xs
sum_by-map f count xs = sym (sum-map count (map f xs)) ∙ ap sum (map-map f count xs) ∙ sum-map (λ x. count (f x)) xs
