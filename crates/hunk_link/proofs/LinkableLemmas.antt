-- Units that link are refused only if memory ran out: the first item that breaks a rule stands
-- among those that a broken rule speaks of.
use Rattle.std.proofs.Common.{◌<◌, List, [], ◌∷◌, ◌++◌, length, get_or, refl, subst, append_assoc, length-append, arith}
use Rattle.std.specs.List.{All, AllPairs}
use Rattle.std.proofs.lemmas.List.{get_or_append_left}
use Rattle.hunk_link.specs.FirstToBreak.{IsFirstToBreak}
use Rattle.hunk_link.specs.Laws.{LinkableOrRefused}
use Rattle.hunk_link.specs.OwnHunks.{NamesOwnHunk}
use Rattle.hunk_link.specs.Ranks.{hunks_of}
use Rattle.hunk_link.specs.References.{IsDefined}
use Rattle.hunk_link.specs.SymbolTable.{HaveTwoNames, table_of}
use Rattle.hunk_link.specs.declared.refusal.LinkRefusal.TheVariants.{NoHunks, TooManyHunks, TooLarge, NoSuchHunk, DuplicateName, UndefinedName, OutOfMemory}
use Rattle.hunk_link.proofs.AllLemmas.{All-parts}

-- ---- rules that hold of the items in front if they hold of all

abbrev IsForPrefixes : {X : Type 0} → (List X → Type 0) → Type 0
IsForPrefixes {X} Rule = (front rest : List X) → Rule (front ++ rest) → Rule front

All-prefix : {X : Type 0} (P : X → Type 0) → IsForPrefixes (All P)
All-prefix P front rest all = (All-parts P front rest all).0

AllPairs-prefix : {X : Type 0} (R : X → X → Type 0) → IsForPrefixes (AllPairs R)
AllPairs-prefix R front rest all =
    λ i j d less low.
    let low_i : i < length front = omega arith in
    let both = all i j d less (omega (arith, length-append front rest)) in
    subst (λ y. R (get_or front i d) y) (get_or_append_left front rest d j low)
    (subst (λ x. R x (get_or (front ++ rest) j d)) (get_or_append_left front rest d i low_i) both)

-- no item is the first to break a rule that holds of all
none-breaks : {X : Type 0} (Rule : List X → Type 0) (items : List X) (item : X) → IsForPrefixes Rule → Rule items → IsFirstToBreak Rule items item → ⊥
none-breaks Rule items item prefixes obeyed first =
    first.broken (prefixes (first.before ++ item ∷ []) first.after (rw append_assoc (subst Rule first.among obeyed)))

-- ---- of units

pub linkable-or_refused : {A : Type 0} → LinkableOrRefused A
linkable-or_refused units strip NoHunks linkable refused = absurd (omega (arith, linkable.counted.some))
linkable-or_refused units strip TooManyHunks linkable refused = absurd (omega (arith, linkable.counted.few))
linkable-or_refused units strip TooLarge linkable refused = absurd (refused.1 linkable.small)
linkable-or_refused units strip (NoSuchHunk unit hunk target) linkable refused =
    absurd (none-breaks (All NamesOwnHunk) _ _ (All-prefix NamesOwnHunk) linkable.own_hunks refused.2.first)
linkable-or_refused units strip (DuplicateName unit hunk name) linkable refused =
    absurd (none-breaks (AllPairs HaveTwoNames) _ _ (AllPairs-prefix HaveTwoNames) linkable.once refused.3.first)
linkable-or_refused units strip (UndefinedName unit hunk name) linkable refused =
    let IsNamed = IsDefined (table_of (hunks_of units)) in
    absurd (none-breaks (All IsNamed) _ _ (All-prefix IsNamed) linkable.defined refused.4.first)
linkable-or_refused units strip OutOfMemory linkable refused = refl
