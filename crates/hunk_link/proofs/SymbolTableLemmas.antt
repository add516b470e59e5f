-- The symbol table of definitions, one definition after another.
use Rattle.std.proofs.Common.{◌≡◌, ◌≢◌, ℕ, Bool, true, false, List, [], ◌∷◌, ◌++◌, length, map, nat_eq, None, refl, sym, ap, ◌∙◌, arith}
use Rattle.std.proofs.lemmas.List.{get_or_append_left, get_or_push, length_push, map_push}
use Rattle.std.proofs.lemmas.List.Elements.{All-cons, All-nil, All-tail}
use Rattle.std.proofs.lemmas.List.Quantifiers.{all_pairs_push}
use Rattle.std.proofs.lemmas.Map.{NonePasses, lookup-none, none_passes_from_lookup}
use Rattle.std.specs.Cmp.Lexicographic.{pointwise, other_text, same_text}
use Rattle.std.specs.List.{All}
use Rattle.hunk_link.specs.FirstToBreak.{IsFirstToBreak}
use Rattle.hunk_link.specs.SymbolTable.{Definition, DefinedOnce, HaveTwoNames, IsDuplicate, Table, entry, look_up}
use Rattle.hunk_link.specs.declared.refusal.LinkRefusal.{LinkRefusal}
use Rattle.hunk_link.specs.declared.refusal.LinkRefusal.TheVariants.{DuplicateName, OutOfMemory}
use Rattle.hunk_link.proofs.FirstToBreakLemmas.{first-front}

-- ---- names that are defined once

different_texts : (one other : List ℕ) → other ≢ one → pointwise nat_eq one other ≡ false
different_texts one other differ = by (pointwise nat_eq one other) refl
  where
    by : (same : Bool) → same ≡ pointwise nat_eq one other → same ≡ false
    by true told = absurd (differ (sym (same_text one other told)))
    by false told = refl

other_names_from_absent : (before : List Definition) (name : List ℕ) → NonePasses (pointwise nat_eq name) (map entry before) → All (λ (d : Definition). d.1.0 ≢ name) before
other_names_from_absent [] name absent = All-nil (λ (d : Definition). d.1.0 ≢ name)
other_names_from_absent (d ∷ before) name absent =
    All-cons (λ (d : Definition). d.1.0 ≢ name) d before (λ same. other_text name d.1.0 (sym absent.0) (sym same)) (other_names_from_absent before name absent.1)

absent_from_other_names : (before : List Definition) (name : List ℕ) → All (λ (d : Definition). d.1.0 ≢ name) before → NonePasses (pointwise nat_eq name) (map entry before)
absent_from_other_names [] name others = tt
absent_from_other_names (d ∷ before) name others =
    (different_texts name d.1.0 (others 0 d (omega arith)), absent_from_other_names before name (All-tail (λ (d : Definition). d.1.0 ≢ name) d before others))

-- the table of these definitions, which define no name twice
pub record IsTableOf (definitions : List Definition) (table : Table) : Type 0 where
  pub entries_are : table ≡ map entry definitions
  pub once : DefinedOnce definitions

module _ {before : List Definition} {table : Table} (so_far : IsTableOf before table) (d : Definition) where
  -- a definition of a new name
  pub IsTableOf-more : (new : Table) → look_up table d.1.0 ≡ None → new ≡ table ++ entry d ∷ [] → IsTableOf (before ++ d ∷ []) new
  IsTableOf-more new absent added = record {
    entries_are = added ∙ ap (λ t. t ++ entry d ∷ []) so_far.entries_are ∙ sym (map_push entry before d);
    once =
        let none : look_up (map entry before) d.1.0 ≡ None = ap (λ t. look_up t d.1.0) (sym so_far.entries_are) ∙ absent in
        all_pairs_push HaveTwoNames before d so_far.once
        (other_names_from_absent before d.1.0 (none_passes_from_lookup (pointwise nat_eq d.1.0) (map entry before) none));
  }

  -- a definition of a name that is there
  pub first_duplicate : (after : List Definition) → look_up table d.1.0 ≢ None → IsFirstToBreak DefinedOnce (before ++ d ∷ after) d
  first_duplicate after there = record {
    before = before;
    after = after;
    among = refl;
    obeyed = so_far.once;
    broken = λ once. there (ap (λ t. look_up t d.1.0) so_far.entries_are ∙ lookup-none (pointwise nat_eq d.1.0) (map entry before) (absent_from_other_names before d.1.0 (others once)));
  }
    where
      others : DefinedOnce (before ++ d ∷ []) → All (λ (e : Definition). e.1.0 ≢ d.1.0) before
      others once k e within same =
          once k (length before) e within (omega (arith, length_push before d))
          (ap (λ (x : Definition). x.1.0) (get_or_append_left before (d ∷ []) e k within) ∙ same ∙ sym (ap (λ (x : Definition). x.1.0) (get_or_push before d e (length before) refl)))

-- a refusal of the front of the definitions is one of all of them
pub IsDuplicate-front : {A : Type 0} (xs zs definitions : List Definition) (refusal : LinkRefusal A) → xs ++ zs ≡ definitions → IsDuplicate xs refusal → IsDuplicate definitions refusal
IsDuplicate-front xs zs definitions (DuplicateName unit hunk name) whole duplicate = record {
  ranked = duplicate.ranked;
  definition = duplicate.definition;
  at = duplicate.at;
  first = first-front DefinedOnce xs zs definitions (duplicate.ranked, (name, duplicate.definition)) whole duplicate.first;
}
IsDuplicate-front xs zs definitions OutOfMemory whole duplicate = tt
IsDuplicate-front xs zs definitions _ whole duplicate = duplicate
