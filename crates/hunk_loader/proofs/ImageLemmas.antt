-- The look-up of an address among hunks.
use Rattle.std.proofs.Common.{◌≡◌, ℕ, zero, suc, ◌+◌, ◌-◌, ◌*◌, ◌<◌, ◌≤◌, inl, inr, true, false, nat_le, List, [], ◌∷◌, length, Some, None, slice_index, refl, sym, ap, subst, ◌∙◌, arith}
use Rattle.std.specs.List.{slice_get}
use Rattle.std.proofs.lemmas.Bool.{cases_lt}
use Rattle.std.proofs.lemmas.Bool.Decides.{nat_tests}
use Rattle.std.proofs.lemmas.List.{length-map}
use Rattle.std.proofs.lemmas.Option.{slice_get-get_or, slice_get_past, slice_get_within}
use Rattle.hunk_loadfile.specs.LoadHunk.{FileHunk}
use Rattle.hunk_loadfile.specs.Patching.{patched}
use Rattle.hunk_loadfile.proofs.PatchingLemmas.{length-patched_bytes, slice_index-patched_bytes}
use Rattle.hunk_loader.specs.Image.{byte_in, memory_map}
use Rattle.hunk_loader.specs.Laws.{HunkIsLoaded, NothingElseIsLoaded}
use Rattle.hunk_loader.specs.Loading.{loaded, loaded_bytes}
use Rattle.hunk_loader.specs.Places.{Takes}
use Rattle.hunk_loader.specs.Sizes.{sizes_of}
use Rattle.hunk_loader.proofs.LoadingLemmas.{loaded_from}

-- ---- one hunk

byte_in-inside : (base : ℕ) (bytes : List ℕ) (i : ℕ) → i < length bytes → byte_in base bytes (base + i) ≡ Some (slice_index bytes i)
byte_in-inside base bytes i low =
    let test : nat_le base (base + i) ≡ true = grind (arith, nat_tests) in
    let place : base + i - base ≡ i = omega arith in
    rw (test, place) (slice_get-get_or bytes i 0 low)

byte_in-outside : (base : ℕ) (bytes : List ℕ) (address : ℕ) → (base ≤ address → address < base + length bytes → ⊥) → byte_in base bytes address ≡ None
byte_in-outside base bytes address out = elim (cases_lt address base) [
  | inl below ↦ let test : nat_le base address ≡ false = grind (arith, nat_tests) in rw test refl
  | inr from ↦
      let test : nat_le base address ≡ true = grind (arith, nat_tests) in
      let past : length bytes ≤ address - base = elim (cases_lt (address - base) (length bytes)) [ inl inside ↦ absurd (out from (omega arith)) | inr past ↦ past ] in
      rw test (slice_get_past bytes (address - base) past)
]

-- ---- among hunks

-- no hunk has a byte at the address
abbrev Misses : List (ℕ × List ℕ) → ℕ → ℕ → Type 0
Misses hunks address number = (hunk : ℕ × List ℕ) → slice_get hunks number ≡ Some hunk → byte_in hunk.0 hunk.1 address ≡ None

memory_map-none : (hunks : List (ℕ × List ℕ)) (address : ℕ) → ((number : ℕ) → Misses hunks address number) → memory_map hunks address ≡ None
memory_map-none [] address none = refl
memory_map-none (hunk ∷ hunks) address none = rw (none 0 hunk refl) (memory_map-none hunks address (λ number. none (suc number)))

memory_map-some : (hunks : List (ℕ × List ℕ)) (number address : ℕ) (hunk : ℕ × List ℕ) (byte : ℕ) → slice_get hunks number ≡ Some hunk → byte_in hunk.0 hunk.1 address ≡ Some byte
    → ((lower : ℕ) → lower < number → Misses hunks address lower) → memory_map hunks address ≡ Some byte
memory_map-some [] number address hunk byte is found none = absurd (cc)
memory_map-some (first ∷ hunks) zero address hunk byte is found none =
    let same : first ≡ hunk = cc in
    let here : byte_in first.0 first.1 address ≡ Some byte = subst (λ h. byte_in h.0 h.1 address ≡ Some byte) (sym same) found in
    rw here refl
memory_map-some (first ∷ hunks) (suc number) address hunk byte is found none =
    rw (none 0 (omega arith) first refl) (memory_map-some hunks number address hunk byte is found (λ lower below. none (suc lower) (omega arith)))

-- ---- among loaded hunks

-- the hunk with this number, loaded
loaded_from-at : (all bases : List ℕ) (hunks : List FileHunk) (number : ℕ) (hunk : FileHunk) → slice_get hunks number ≡ Some hunk → number < length bases
    → slice_get (loaded_from all bases hunks) number ≡ Some (slice_index bases number, loaded_bytes all hunk)
loaded_from-at all [] hunks number hunk is low = absurd (omega arith)
loaded_from-at all (base ∷ bases) [] number hunk is low = absurd (cc)
loaded_from-at all (base ∷ bases) (first ∷ hunks) zero hunk is low =
    let same : first ≡ hunk = cc in
    ap (λ h. Some (base, loaded_bytes all h)) same
loaded_from-at all (base ∷ bases) (first ∷ hunks) (suc number) hunk is low = loaded_from-at all bases hunks number hunk is (omega arith)

-- what is loaded is a hunk's
record LoadedFrom (all bases : List ℕ) (hunks : List FileHunk) (number : ℕ) (placed : ℕ × List ℕ) : Type 0 where
  hunk : FileHunk
  is_hunk : slice_get hunks number ≡ Some hunk
  is_placed : placed ≡ (slice_index bases number, loaded_bytes all hunk)

loaded_from-of : (all bases : List ℕ) (hunks : List FileHunk) (number : ℕ) (placed : ℕ × List ℕ) → slice_get (loaded_from all bases hunks) number ≡ Some placed → LoadedFrom all bases hunks number placed
loaded_from-of all [] hunks number placed is = absurd (cc)
loaded_from-of all (base ∷ bases) [] number placed is = absurd (cc)
loaded_from-of all (base ∷ bases) (first ∷ hunks) zero placed is =
    let same : (base, loaded_bytes all first) ≡ placed = cc in
    record { hunk = first; is_hunk = refl; is_placed = sym same }
loaded_from-of all (base ∷ bases) (first ∷ hunks) (suc number) placed is =
    let rest = loaded_from-of all bases hunks number placed is in
    record { hunk = rest.hunk; is_hunk = rest.is_hunk; is_placed = rest.is_placed }

size-at : (hunks : List FileHunk) (number : ℕ) (hunk : FileHunk) → slice_get hunks number ≡ Some hunk → slice_index (sizes_of hunks) number ≡ hunk.size
size-at [] number hunk is = absurd (cc)
size-at (first ∷ hunks) zero hunk is = let same : first ≡ hunk = cc in ap (λ h. h.size) same
size-at (first ∷ hunks) (suc number) hunk is = size-at hunks number hunk is

module _ (hunks : List FileHunk) (bases : List ℕ) (number : ℕ) (hunk : FileHunk) (is : slice_get hunks number ≡ Some hunk) where
  length-loaded_bytes : length (loaded_bytes bases hunk) ≡ 4 * slice_index (sizes_of hunks) number
  length-loaded_bytes =
      length-patched_bytes (4 * hunk.size) hunk.content hunk.sites.entries (slice_index bases) ∙ ap (λ size. 4 * size) (sym (size-at hunks number hunk is))

  Takes-inside : (i : ℕ) → i < 4 * hunk.size → Takes (sizes_of hunks) bases number (slice_index bases number + i)
  Takes-inside i low = let size = size-at hunks number hunk is in record { from_base = omega arith; before_end = omega arith }

-- a hunk that does not take the address has no byte there
loaded-misses : (hunks : List FileHunk) (bases : List ℕ) (number address : ℕ) → (Takes (sizes_of hunks) bases number address → ⊥) → Misses (loaded hunks bases) address number
loaded-misses hunks bases number address free placed is =
    let from = loaded_from-of bases bases hunks number placed is in
    let bytes : List ℕ = loaded_bytes bases from.hunk in
    let count : length bytes ≡ 4 * slice_index (sizes_of hunks) number = length-loaded_bytes hunks bases number from.hunk from.is_hunk in
    subst (λ p. byte_in p.0 p.1 address ≡ None) (sym from.is_placed)
    (byte_in-outside (slice_index bases number) bytes address (λ low high. free (record { from_base = low; before_end = omega (arith, high, count) })))

pub nothing-loaded : NothingElseIsLoaded
nothing-loaded hunks bases address free = memory_map-none (loaded hunks bases) address (λ number. loaded-misses hunks bases number address (free number))

pub hunk-loaded : HunkIsLoaded
hunk-loaded hunks bases number i hunk placed is low =
    let counted : number < length bases = omega (arith, slice_get_within hunks number hunk is, length-map hunks (λ h. h.size), placed.one_base_each) in
    let address : ℕ = slice_index bases number + i in
    let bytes : List ℕ = loaded_bytes bases hunk in
    let fits : i < length bytes = omega (arith, length-patched_bytes (4 * hunk.size) hunk.content hunk.sites.entries (slice_index bases)) in
    let found = byte_in-inside (slice_index bases number) bytes i fits ∙ ap (λ b. Some b) (slice_index-patched_bytes (4 * hunk.size) hunk.content hunk.sites.entries (slice_index bases) i low) in
    let takes : Takes (sizes_of hunks) bases number address = Takes-inside hunks bases number hunk is i low in
    memory_map-some (loaded hunks bases) number address (slice_index bases number, bytes) (patched hunk.content hunk.sites.entries (slice_index bases) i)
    (loaded_from-at bases bases hunks number hunk is counted) found
    (λ lower below. loaded-misses hunks bases lower address (λ other. let same : lower ≡ number = placed.apart lower number address other takes in omega (arith, same, below)))
