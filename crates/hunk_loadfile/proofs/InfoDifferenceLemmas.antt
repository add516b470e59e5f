-- What holds of the first difference of two load files in what only debuggers read.
use Rattle.std.proofs.Common.{◌≡◌, ◌≤◌, ◌<◌, ◌+◌, ◌∙◌, Bool, true, false, ℕ, min, List, Vec, length, drop, get_or, length-drop, sym, ap, arith}
use Rattle.std.specs.List.{common_prefix_len}
use Rattle.std.proofs.lemmas.List.{get_or-map, length-map}
use Rattle.std.proofs.lemmas.List.Sums.{common_prefix_len-drop_no, common_prefix_len-drop_yes, common_prefix_len-le}
use Rattle.hunk_words.specs.DebugInfo.{lists_of}
use Rattle.hunk_loadfile.specs.InfoDifference.{is_same_debug}

-- ---- how much two lists share

-- nothing behind the end of the shorter one
pub nothing_shared : {X : Type 0} (same : X → X → Bool) (xs ys : List X) (n : ℕ) → min (length xs) (length ys) ≤ n → common_prefix_len same (drop n xs) (drop n ys) ≡ 0
nothing_shared same xs ys n past =
    let most = common_prefix_len-le same (drop n xs) (drop n ys) in
    omega (arith, most.0, most.1, length-drop n xs, length-drop n ys)

module _ {A B : Type 0} (first : List (Vec ℕ A)) (second : List (Vec ℕ B)) (i : ℕ) where
  abbrev shared_from : ℕ → ℕ
  shared_from n = common_prefix_len is_same_debug (drop n (lists_of first)) (drop n (lists_of second))

  item-at : {C : Type 0} (vecs : List (Vec ℕ C)) (vec : Vec ℕ C) (debug : List ℕ) → i < length vecs → vec ≡ get_or vecs i vec → debug ≡ vec.items → get_or (lists_of vecs) i debug ≡ debug
  item-at vecs vec debug low is same = get_or-map (λ u. u.items) vecs i vec debug low ∙ ap (λ u. u.items) (sym is) ∙ sym same

  module _ (v : Vec ℕ A) (w : Vec ℕ B) (x y : List ℕ) (low : i < length first) (high : i < length second) (v_is : v ≡ get_or first i v) (w_is : w ≡ get_or second i w) (x_is : x ≡ v.items) (y_is : y ≡ w.items) (all : ℕ)
      (so_far : all ≡ i + shared_from i) where
    tested : is_same_debug (get_or (lists_of first) i x) (get_or (lists_of second) i y) ≡ is_same_debug x y
    tested = ap (λ debug. is_same_debug debug (get_or (lists_of second) i y)) (item-at first v x low v_is x_is) ∙ ap (is_same_debug x) (item-at second w y high w_is y_is)

    pub debugs-unlike : is_same_debug x y ≡ false → i ≡ all
    debugs-unlike unlike =
        omega (arith, so_far, common_prefix_len-drop_no is_same_debug (lists_of first) (lists_of second) i x y (omega (arith, length-map first (λ u. u.items))) (omega (arith, length-map second (λ u. u.items))) (tested ∙ unlike))

    pub debugs-same : is_same_debug x y ≡ true → all ≡ i + 1 + shared_from (i + 1)
    debugs-same same =
        omega (arith, so_far, common_prefix_len-drop_yes is_same_debug (lists_of first) (lists_of second) i x y (omega (arith, length-map first (λ u. u.items))) (omega (arith, length-map second (λ u. u.items))) (tested ∙ same))
