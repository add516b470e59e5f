-- Hunks without a fault are a load file.
use Rattle.std.proofs.Common.{inl, inr, ◌≡◌, ◌==◌, ℕ, ◌*◌, ◌%◌, ◌^◌, ◌<◌, ◌≤◌, Bool, true, false, not, nat_le, nat_lt, Option, Some, None, List, [], ◌∷◌, length, refl, position, arith}
use Rattle.std.specs.List.{All, list_all, position_or_len}
use Rattle.std.proofs.lemmas.Bool.{and_parts, cases_Bool, cases_lt, lt-ltb, leb-true, ltb-true, eqb-true}
use Rattle.std.proofs.lemmas.List.Elements.{All-cons, All-nil, All-weaker}
use Rattle.hunk_loadfile.specs.LoadHunk.{FileHunk}
use Rattle.hunk_loadfile.specs.declared.rules.BuildFault.{BuildFault}
use Rattle.hunk_loadfile.specs.Rules.{IsTyped, IsLoadHunk, IsLoadFile, build_fault, carried_longwords, fault_at, fault_unless, has_content, has_limit, has_names, has_targets, most_content, size_of}
use Rattle.hunk_base.specs.Name.{most_name}

fault_unless-none : (b : Bool) (fault : BuildFault) (next : Option BuildFault) → fault_unless b fault next ≡ None → (b ≡ true) × (next ≡ None)
fault_unless-none true fault next h = (refl, h)
fault_unless-none false fault next h = absurd (cc)

fault_at-none : (fault : ℕ → BuildFault) (place : Option ℕ) (next : Option BuildFault) → fault_at fault place next ≡ None → (place ≡ None) × (next ≡ None)
fault_at-none fault None next h = (refl, h)
fault_at-none fault (Some k) next h = absurd (cc)

-- if no element fails a check, each passes it
no_place : {X : Type 0} (test : X → Bool) (xs : List X) → length xs ≤ position_or_len (λ x. not (test x)) xs → All (λ x. test x ≡ true) xs
no_place test [] h = All-nil _
no_place {X} test (x ∷ xs) h = elim (cases_Bool (test x)) [
  | inl passes ↦ let rest = rw passes at h in All-cons (λ y. test y ≡ true) x xs passes (no_place test xs (omega arith))
  | inr fails ↦ let rest = rw fails at h in absurd (omega arith)
]

position-none : {X : Type 0} (test : X → Bool) (xs : List X) → position (λ x. not (test x)) xs ≡ None → All (λ x. test x ≡ true) xs
position-none test xs h = elim (cases_lt (position_or_len (λ x. not (test x)) xs) (length xs)) [
  | inl below ↦ let found = rw (lt-ltb (position_or_len (λ x. not (test x)) xs) (length xs) below) at h in absurd (cc)
  | inr above ↦ no_place test xs above
]

list_all-true : {X : Type 0} (test : X → Bool) (xs : List X) → list_all test xs ≡ true → All (λ x. test x ≡ true) xs
list_all-true test [] h = All-nil _
list_all-true test (x ∷ xs) h = let both = and_parts (test x) (list_all test xs) h in All-cons (λ y. test y ≡ true) x xs both.0 (list_all-true test xs both.1)

-- what the checks say about a hunk
IsLoadHunk-from : (count : ℕ) (h : FileHunk) → IsTyped h → has_content h ≡ true → has_limit h ≡ true → has_targets count h ≡ true → has_names h ≡ true → IsLoadHunk count h
IsLoadHunk-from count h typed content limit targets names =
    let parts = and_parts (length h.content % 4 == 0) (nat_le (length h.content) (most_content h.kind h.size)) content in
    record {
      typed = typed;
      whole = eqb-true (length h.content % 4) 0 parts.0;
      content = leb-true (length h.content) (most_content h.kind h.size) parts.1;
      limit = eqb-true h.sites.limit (4 * h.size) limit;
      targets = All-weaker (λ site. nat_lt site.1 count ≡ true) (λ site. site.1 < count) (λ site t. ltb-true site.1 count t) h.sites.entries (list_all-true (λ site. nat_lt site.1 count) h.sites.entries targets);
      names = All-weaker (λ s. nat_le (length s.0) most_name ≡ true) (λ s. length s.0 ≤ most_name) (λ s t. leb-true (length s.0) most_name t) h.symbols (list_all-true (λ s. nat_le (length s.0) most_name) h.symbols names);
    }

pub IsLoadFile-from : (hunks : List FileHunk) → build_fault hunks ≡ None → All IsTyped hunks → IsLoadFile hunks
IsLoadFile-from hunks none typed =
    let count = fault_unless-none _ _ _ none in
    let small = fault_unless-none _ _ _ count.1 in
    let content = fault_at-none _ _ _ small.1 in
    let limit = fault_at-none _ _ _ content.1 in
    let targets = fault_at-none _ _ _ limit.1 in
    let names = fault_at-none _ _ _ targets.1 in
    let counts = and_parts (nat_le 1 (length hunks)) (nat_le (length hunks) 65535) count.0 in
    let sums = and_parts (nat_le (size_of hunks) (2 ^ 24)) (nat_le (carried_longwords hunks) (2 ^ 27)) small.0 in
    record {
      some = leb-true 1 (length hunks) counts.0;
      few = leb-true (length hunks) 65535 counts.1;
      small = leb-true (size_of hunks) (2 ^ 24) sums.0;
      carries = omega (arith, leb-true (carried_longwords hunks) (2 ^ 27) sums.1);
      each = λ k d within. IsLoadHunk-from (length hunks) _ (typed k d within)
          (position-none has_content hunks content.0 k d within)
          (position-none has_limit hunks limit.0 k d within)
          (position-none (has_targets (length hunks)) hunks targets.0 k d within)
          (position-none has_names hunks names.0 k d within);
    }

-- the symbols and debug blocks of accepted hunks
pub carried_longwords-accepted : (hunks : List FileHunk) → build_fault hunks ≡ None → carried_longwords hunks ≤ 2 ^ 27
carried_longwords-accepted hunks none =
    let small = fault_unless-none _ _ _ (fault_unless-none _ _ _ none).1 in
    leb-true (carried_longwords hunks) (2 ^ 27) (and_parts (nat_le (size_of hunks) (2 ^ 24)) (nat_le (carried_longwords hunks) (2 ^ 27)) small.0).1
