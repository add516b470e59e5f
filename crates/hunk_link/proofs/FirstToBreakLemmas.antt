-- Looking for the first item that breaks a rule, by chunks of the list.
use Rattle.std.proofs.Common.{◌≡◌, List, [], ◌∷◌, ◌++◌, length, refl, sym, ap, subst, ◌∙◌, append_assoc}
use Rattle.std.proofs.lemmas.List.{append-nil, drop_at}
use Rattle.std.proofs.lemmas.List.Elements.{All-nil, All-cons, All-head, All-append, All-drop}
use Rattle.std.specs.List.{All}
use Rattle.hunk_link.specs.FirstToBreak.{IsFirstToBreak}

-- what is left of the items, where those before it obey the rule
pub record IsObeyedBefore {X : Type 0} (Rule : List X → Type 0) (left items : List X) : Type 0 where
  pub before : List X
  pub whole : before ++ left ≡ items
  pub obeyed : Rule before

module _ {X : Type 0} (Rule : List X → Type 0) where
  -- the first in the front of a list is the first in the list
  pub first-longer : (xs zs : List X) (x : X) → IsFirstToBreak Rule xs x → IsFirstToBreak Rule (xs ++ zs) x
  first-longer xs zs x first = record {
    before = first.before;
    after = first.after ++ zs;
    among = ap (λ ys. ys ++ zs) first.among ∙ append_assoc first.before (x ∷ first.after) zs;
    obeyed = first.obeyed;
    broken = first.broken;
  }

  -- the same, if the list has this front
  pub first-front : (xs zs items : List X) (x : X) → xs ++ zs ≡ items → IsFirstToBreak Rule xs x → IsFirstToBreak Rule items x
  first-front xs zs items x whole first = subst (λ ys. IsFirstToBreak Rule ys x) whole (first-longer xs zs x first)

  -- at the start nothing is before
  pub obeyed_before-start : (left items : List X) → left ≡ items → Rule [] → IsObeyedBefore Rule left items
  obeyed_before-start left items whole obeyed = record { before = []; whole = whole; obeyed = obeyed }

  -- at the end all obey
  pub obeyed_before-end : (left items : List X) → left ≡ [] → IsObeyedBefore Rule left items → Rule items
  obeyed_before-end left items none so_far =
      subst Rule (sym (append-nil so_far.before) ∙ ap (λ ys. so_far.before ++ ys) (sym none) ∙ so_far.whole) so_far.obeyed

-- a chunk between what is before it and the rest
pub whole-chunk : {X : Type 0} (before left chunk rest items : List X) → left ≡ chunk ++ rest → before ++ left ≡ items → (before ++ chunk) ++ rest ≡ items
whole-chunk before left chunk rest items next whole = append_assoc before chunk rest ∙ ap (λ ys. before ++ ys) (sym next) ∙ whole

module _ {X : Type 0} (P : X → Type 0) where
  All-behind : (ws xs : List X) → All P (ws ++ xs) → All P xs
  All-behind ws xs all = subst (All P) (drop_at ws xs (length ws) refl) (All-drop P (length ws) (ws ++ xs) all)

  -- the first in a list is the first behind items that obey
  pub first-behind : (ws xs : List X) (x : X) → All P ws → IsFirstToBreak (All P) xs x → IsFirstToBreak (All P) (ws ++ xs) x
  first-behind ws xs x obeyed first = record {
    before = ws ++ first.before;
    after = first.after;
    among = ap (λ ys. ws ++ ys) first.among ∙ sym (append_assoc ws first.before (x ∷ first.after));
    obeyed = All-append P ws first.before obeyed first.obeyed;
    broken = λ all. first.broken (All-behind ws (first.before ++ x ∷ []) (subst (All P) (append_assoc ws first.before (x ∷ [])) all));
  }

  module _ {left items : List X} (so_far : IsObeyedBefore (All P) left items) (rest : List X) where
    -- a chunk that obeys is passed
    pub obeyed_before-chunk : (chunk : List X) → left ≡ chunk ++ rest → All P chunk → IsObeyedBefore (All P) rest items
    obeyed_before-chunk chunk next obeyed = record {
      before = so_far.before ++ chunk;
      whole = whole-chunk so_far.before left chunk rest items next so_far.whole;
      obeyed = All-append P so_far.before chunk so_far.obeyed obeyed;
    }

    -- the first in the next chunk is the first of all
    pub first-chunk : (chunk : List X) → left ≡ chunk ++ rest → (x : X) → IsFirstToBreak (All P) chunk x → IsFirstToBreak (All P) items x
    first-chunk chunk next x first =
        first-front (All P) (so_far.before ++ chunk) rest items x (whole-chunk so_far.before left chunk rest items next so_far.whole)
        (first-behind so_far.before chunk x so_far.obeyed first)

    -- the same of one item
    pub obeyed_before-item : (x : X) → left ≡ x ∷ rest → P x → IsObeyedBefore (All P) rest items
    obeyed_before-item x next obeys = obeyed_before-chunk (x ∷ []) next (All-cons P x [] obeys (All-nil P))

    pub first-item : (x : X) → left ≡ x ∷ rest → (P x → ⊥) → IsFirstToBreak (All P) items x
    first-item x next broken =
        first-chunk (x ∷ []) next x (record { before = []; after = []; among = refl; obeyed = All-nil P; broken = λ all. broken (All-head P x [] all) })
