-- Debug blocks, after one more longword.
use Rattle.std.proofs.Common.{◌≡◌, ℕ, zero, suc, ◌<◌, true, false, List, [], ◌∷◌, ◌++◌, length, Vec, get_or, slice_set, refl, ap, ◌∙◌, arith}
use Rattle.hunk_words.specs.DebugInfo.{lists_of}
use Rattle.hunk_words.specs.EventValue.{on_last}

pub lists_of-last : {A : Type 0} (vecs : List (Vec ℕ A)) (i w : ℕ) (old new : Vec ℕ A) → length vecs ≡ suc i → old ≡ get_or vecs i old → new.items ≡ old.items ++ (w ∷ [])
    → lists_of (slice_set vecs i new) ≡ on_last (λ ws. ws ++ (w ∷ [])) (lists_of vecs)
lists_of-last [] i w old new count is grows = absurd (omega arith)
lists_of-last (v ∷ []) zero w old new count is grows = ap (λ ws. ws ∷ []) (grows ∙ ap (λ u. u.items ++ (w ∷ [])) is)
lists_of-last (v ∷ []) (suc i) w old new count is grows = absurd (omega arith)
lists_of-last (v ∷ u ∷ vecs) zero w old new count is grows = absurd (omega arith)
lists_of-last (v ∷ u ∷ vecs) (suc i) w old new count is grows = ap (λ ws. v.items ∷ ws) (lists_of-last (u ∷ vecs) i w old new (omega arith) is grows)

pub lists_of-same : {A : Type 0} (vecs : List (Vec ℕ A)) (i : ℕ) (old new : Vec ℕ A) → i < length vecs → old ≡ get_or vecs i old → new.items ≡ old.items
    → lists_of (slice_set vecs i new) ≡ lists_of vecs
lists_of-same [] i old new within is same = absurd (omega arith)
lists_of-same (v ∷ vecs) zero old new within is same = ap (λ ws. ws ∷ lists_of vecs) (same ∙ ap (λ u. u.items) is)
lists_of-same (v ∷ vecs) (suc i) old new within is same = ap (λ ws. v.items ∷ ws) (lists_of-same vecs i old new (omega arith) is same)

pub lists_of-none : {A : Type 0} (vecs : List (Vec ℕ A)) (w : ℕ) → length vecs ≡ 0 → lists_of vecs ≡ on_last (λ ws. ws ++ (w ∷ [])) (lists_of vecs)
lists_of-none [] w none = refl
lists_of-none (v ∷ vecs) w none = absurd (omega arith)

pub none-left : (n : ℕ) → (0 < n → false ≡ true) → n ≡ 0
none-left zero some = refl
none-left (suc n) some = let wrong : false ≡ true = some (omega arith) in cc
