-- From what passes back to the number: the kind of a type or an entry determines its number, and a
-- longword is made of its parts.
use Rattle.std.proofs.Common.{◌≡◌, ℕ, ◌/◌, ◌%◌, ◌^◌, ◌<◌, Bool, true, false, Option, Some, None, List, [], ◌∷◌, ◌==◌, if◌then◌else◌, refl, ap, sym, subst, ◌∙◌, arith}
use Rattle.std.proofs.lemmas.Grind.{common_steps}
use Rattle.std.proofs.lemmas.Bool.{eqb-true}
use Rattle.hunk_words.specs.Kinds.{lookup_or, low, bits, block_types, type_of, is_unsupported, entry_types, entry_of, entry_type, entry_length}
use Rattle.hunk_words.specs.FaultTable.{reject_unless, and_then}
use Rattle.hunk_words.specs.Spelling.{joined_bits, type_longword}
use Rattle.hunk_words.specs.declared.kinds.HunkKind.TheVariants.{Code, Data, Bss}
use Rattle.hunk_words.specs.declared.kinds.BlockType.{BlockType}
use Rattle.hunk_words.specs.declared.kinds.BlockType.TheVariants.{Unit as unit, Name as name, Content as content, Reloc as reloc, Ext as ext, Symbol as symbol, Debug as debug, End as end, Header as header, Short as short, Unsupported as unsupported, Unknown as unknown}
use Rattle.hunk_words.specs.declared.kinds.EntryType.{EntryType}
use Rattle.hunk_words.specs.declared.kinds.EntryType.TheVariants.{Definition as definition, Absolute as absolute, Reference as reference, Other as other_entry}
use Rattle.hunk_base.specs.declared.fault.Reason.{Reason}

-- ---- checks that passed

pub reject_unless-none : (b : Bool) (r : Reason) → reject_unless b r ≡ None → b ≡ true
reject_unless-none true r h = refl
reject_unless-none false r h = absurd (cc)

pub and_then-first : (a b : Option Reason) → and_then a b ≡ None → a ≡ None
and_then-first None b h = refl
and_then-first (Some r) b h = absurd (cc)

pub reject_unless-number : (n m : ℕ) (r : Reason) → reject_unless (n == m) r ≡ None → n ≡ m
reject_unless-number n m r h = eqb-true n m (reject_unless-none (n == m) r h)

-- ---- look-ups in a table

-- each row has the property
abbrev pub AllRows : {A : Type 0} → (A → ℕ → Type 0) → List (ℕ × A) → Type 0
AllRows P [] = Unit {0}
AllRows P (row ∷ rows) = P row.1 row.0 × AllRows P rows

lookup_or-case : {A : Type 0} (P : A → ℕ → Type 0) (b : Bool) (x y : A) (t : ℕ) → (b ≡ true → P x t) → P y t → P (if b then x else y) t
lookup_or-case P true x y t here below = here refl
lookup_or-case P false x y t here below = below

pub lookup_or-all : {A : Type 0} (P : A → ℕ → Type 0) (rows : List (ℕ × A)) (other : A) (t : ℕ) → AllRows P rows → P other t → P (lookup_or rows other t) t
lookup_or-all P [] other t all last = last
lookup_or-all P (row ∷ rows) other t all last =
    lookup_or-case P (t == row.0) row.1 (lookup_or rows other t) t
    (λ same. subst (λ n. P row.1 n) (sym (eqb-true t row.0 same)) all.0)
    (lookup_or-all P rows other t all.1 last)

-- the number of a type
abbrev pub TypeIs : BlockType → ℕ → Type 0
TypeIs unit t = t ≡ 999
TypeIs name t = t ≡ 1000
TypeIs (content Code) t = t ≡ 1001
TypeIs (content Data) t = t ≡ 1002
TypeIs (content Bss) t = t ≡ 1003
TypeIs reloc t = t ≡ 1004
TypeIs ext t = t ≡ 1007
TypeIs symbol t = t ≡ 1008
TypeIs debug t = t ≡ 1009
TypeIs end t = t ≡ 1010
TypeIs header t = t ≡ 1011
TypeIs short t = t ≡ 1020
TypeIs _ t = Unit {0}

type-other : (b : Bool) (t : ℕ) → TypeIs (if b then unsupported else unknown) t
type-other true t = tt
type-other false t = tt

pub type-is : (t : ℕ) → TypeIs (type_of t) t
unfolding type_of
type-is t = lookup_or-all TypeIs block_types (if is_unsupported t then unsupported else unknown) t
    (refl, (refl, (refl, (refl, (refl, (refl, (refl, (refl, (refl, (refl, (refl, (refl, tt))))))))))))
    (type-other (is_unsupported t) t)

-- the number of an entry's type
abbrev pub EntryIs : EntryType → ℕ → Type 0
EntryIs definition t = t ≡ 1
EntryIs absolute t = t ≡ 2
EntryIs reference t = t ≡ 129
EntryIs other_entry t = Unit {0}

pub entry-is : (n : ℕ) → EntryIs (entry_of n) (entry_type n)
unfolding entry_of
entry-is n = lookup_or-all EntryIs entry_types other_entry (entry_type n) (refl, (refl, (refl, tt))) tt

-- ---- a longword and its parts

pub joined_bits-whole : (u n : ℕ) → 0 < u → joined_bits u (n / u) (n % u) ≡ n
unfolding joined_bits
joined_bits-whole u n positive = grind (arith, common_steps)

pub type_longword-whole : (n t : ℕ) → low n ≡ t → type_longword (bits n) t ≡ n
type_longword-whole n t is = ap (λ x. type_longword (bits n) x) (sym is) ∙ joined_bits-whole (2 ^ 30) n (omega arith)

pub entry-whole : (n t m : ℕ) → entry_type n ≡ t → entry_length n ≡ m → joined_bits (2 ^ 24) t m ≡ n
entry-whole n t m is len = ap (λ x. joined_bits (2 ^ 24) x m) (sym is) ∙ (ap (λ x. joined_bits (2 ^ 24) (entry_type n) x) (sym len) ∙ joined_bits-whole (2 ^ 24) n (omega arith))
