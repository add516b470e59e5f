-- Two load files mean the same exactly if they have no first difference.
use Rattle.std.proofs.Common.{◌≡◌, ◌==◌, ◌<◌, ◌+◌, ◌*◌, ◌&&◌, ◌∙◌, Bool, true, false, not, ℕ, List, [], ◌∷◌, length, map, slice_index, Option, Some, None, eq-eqb, refl, sym, ap, subst, zero-add, arith}
use Rattle.std.specs.List.{All, range_with_len}
use Rattle.std.specs.Option.{option_eq, option_map, option_or}
use Rattle.std.proofs.lemmas.Bool.{eqb-true, not-false}
use Rattle.std.proofs.lemmas.List.{ext_get_or, length-map}
use Rattle.std.proofs.lemmas.List.Elements.{All-head, All-tail}
use Rattle.std.proofs.lemmas.List.FromFn.{get_or-map-range_with_len, length-map-range_with_len}
use Rattle.hunk_base.specs.Sites.{StandFrom, target_at}
use Rattle.hunk_words.specs.declared.kinds.HunkKind.{HunkKind}
use Rattle.hunk_words.specs.declared.kinds.HunkKind.TheVariants.{Code, Data, Bss}
use Rattle.hunk_words.specs.declared.kinds.Memory.{Memory}
use Rattle.hunk_words.specs.declared.kinds.Memory.TheVariants.{Any, Chip, Fast}
use Rattle.hunk_loadfile.specs.declared.difference.Difference.{Difference}
use Rattle.hunk_loadfile.specs.Difference.{difference_at, first_offset, has_same_byte, has_same_target, hunk_difference, hunks_difference, is_same_kind, is_same_memory, unless}
use Rattle.hunk_loadfile.specs.LoadHunk.{FileHunk}
use Rattle.hunk_loadfile.specs.Meaning.{Meaning, meaning}
use Rattle.hunk_loadfile.specs.MeaningLaws.{NoDifference}
use Rattle.hunk_loadfile.specs.Patching.{byte_or_zero}
use Rattle.hunk_loadfile.specs.Rules.{IsLoadHunk}
use Rattle.hunk_loadfile.proofs.DifferenceLemmas.{both-true, sites-same}
use Rattle.hunk_loadfile.proofs.LowestLemmas.{IsLowest, IsLowest-lowest, lowest-is}

-- ---- kinds and memories

pub same_kind-true : (first second : HunkKind) → is_same_kind first second ≡ true → first ≡ second
same_kind-true Code Code h = refl
same_kind-true Data Data h = refl
same_kind-true Bss Bss h = refl
same_kind-true _ _ h = absurd (cc)

pub same_kind-itself : (kind : HunkKind) → is_same_kind kind kind ≡ true
same_kind-itself Code = refl
same_kind-itself Data = refl
same_kind-itself Bss = refl

pub same_memory-true : (first second : Memory) → is_same_memory first second ≡ true → first ≡ second
same_memory-true Any Any h = refl
same_memory-true Chip Chip h = refl
same_memory-true Fast Fast h = refl
same_memory-true _ _ h = absurd (cc)

pub same_memory-itself : (memory : Memory) → is_same_memory memory memory ≡ true
same_memory-itself Any = refl
same_memory-itself Chip = refl
same_memory-itself Fast = refl

pub option_eq-itself : (target : Option ℕ) → option_eq ◌==◌ target target ≡ true
option_eq-itself None = refl
option_eq-itself (Some t) = eq-eqb t t refl

-- ---- no difference

unless-none : (test : Bool) (difference : Difference) (next : Option Difference) → unless test difference next ≡ None → (test ≡ true) × (next ≡ None)
unless-none true difference next none = (refl, none)
unless-none false difference next none = absurd (cc)

unless-neither : (test : Bool) (difference : Difference) (next : Option Difference) → test ≡ true → next ≡ None → unless test difference next ≡ None
unless-neither test difference next passes none = rw passes none

pub option_map-none : {X Y : Type 0} (f : X → Y) (item : Option X) → option_map f item ≡ None → item ≡ None
option_map-none f None none = refl
option_map-none f (Some x) none = absurd (cc)

pub option_or-none : {X : Type 0} (one other : Option X) → option_or one other ≡ None → (one ≡ None) × (other ≡ None)
option_or-none None other none = (refl, none)
option_or-none (Some x) other none = absurd (cc)

-- ---- bytes and sites

pub bytes-same : (first second : List ℕ) (count : ℕ) → ((i : ℕ) → i < count → has_same_byte first second i ≡ true) → map (byte_or_zero first) (range_with_len 0 count) ≡ map (byte_or_zero second) (range_with_len 0 count)
bytes-same first second count same =
    let counted : (bytes : List ℕ) → length (map (byte_or_zero bytes) (range_with_len 0 count)) ≡ count = λ bytes. length-map-range_with_len (byte_or_zero bytes) 0 count in
    let at : (bytes : List ℕ) (i : ℕ) → i < count → slice_index (map (byte_or_zero bytes) (range_with_len 0 count)) i ≡ byte_or_zero bytes i = λ bytes i low. get_or-map-range_with_len (byte_or_zero bytes) 0 count i i 0 low (zero-add i) in
    ext_get_or 0 (map (byte_or_zero first) (range_with_len 0 count)) (map (byte_or_zero second) (range_with_len 0 count)) (counted first ∙ sym (counted second))
    (λ i h. let low : i < count = omega (arith, counted first) in at first i low ∙ eqb-true (byte_or_zero first i) (byte_or_zero second i) (same i low) ∙ sym (at second i low))

bytes-from : (first second : List ℕ) (count : ℕ) → map (byte_or_zero first) (range_with_len 0 count) ≡ map (byte_or_zero second) (range_with_len 0 count) → (i : ℕ) → i < count → has_same_byte first second i ≡ true
bytes-from first second count same i low =
    let at : (bytes : List ℕ) → slice_index (map (byte_or_zero bytes) (range_with_len 0 count)) i ≡ byte_or_zero bytes i = λ bytes. get_or-map-range_with_len (byte_or_zero bytes) 0 count i i 0 low (zero-add i) in
    eq-eqb (byte_or_zero first i) (byte_or_zero second i) (sym (at first) ∙ ap (λ bytes. slice_index bytes i) same ∙ at second)

module _ (count others : ℕ) (first second : FileHunk) (valid : IsLoadHunk count first) (validated : IsLoadHunk others second) where
  entries-same : first.size ≡ second.size → ((i : ℕ) → i < 4 * first.size → has_same_target first.sites.entries second.sites.entries i ≡ true) → first.sites.entries ≡ second.sites.entries
  entries-same size same =
      let limits : first.sites.limit ≡ second.sites.limit = valid.limit ∙ ap (λ n. 4 * n) size ∙ sym validated.limit in
      sites-same first.sites.limit first.sites.entries second.sites.entries valid.typed.apart (subst (λ limit. StandFrom 0 limit second.sites.entries) (sym limits) validated.typed.apart)
      (λ i low. same i (omega (arith, valid.limit)))

  pub meaning-same : (number : ℕ) → hunk_difference number first second ≡ None → meaning first ≡ meaning second
  meaning-same number none =
      let kinds = unless-none (is_same_kind first.kind second.kind) _ _ none in
      let memories = unless-none (is_same_memory first.memory second.memory) _ _ kinds.1 in
      let sizes = unless-none (first.size == second.size) _ _ memories.1 in
      let nowhere = option_map-none (difference_at number first second) (first_offset first second) sizes.1 in
      let size : first.size ≡ second.size = eqb-true first.size second.size sizes.0 in
      let differs : ℕ → Bool = λ i. not (has_same_byte first.content second.content i && has_same_target first.sites.entries second.sites.entries i) in
      let same : IsLowest differs 0 (0 + 4 * first.size) None = subst (IsLowest differs 0 (0 + 4 * first.size)) nowhere (IsLowest-lowest differs (4 * first.size) 0) in
      let both : (i : ℕ) → i < 4 * first.size → (has_same_byte first.content second.content i ≡ true) × (has_same_target first.sites.entries second.sites.entries i ≡ true) =
      λ i low. both-true (has_same_byte first.content second.content i) (has_same_target first.sites.entries second.sites.entries i) (not-false _ (same i (omega arith) (omega arith))) in
      let bytes = bytes-same first.content second.content (4 * first.size) (λ i low. (both i low).0) ∙ ap (λ n. map (byte_or_zero second.content) (range_with_len 0 (4 * n))) size in
      let sites = entries-same size (λ i low. (both i low).1) in
      let of : HunkKind → Memory → ℕ → List ℕ → List (ℕ × ℕ) → Meaning = λ kind memory size bytes sites. record { kind = kind; memory = memory; size = size; bytes = bytes; sites = sites } in
      ap (λ kind. of kind first.memory first.size (meaning first).bytes first.sites.entries) (same_kind-true first.kind second.kind kinds.0)
      ∙ ap (λ memory. of second.kind memory first.size (meaning first).bytes first.sites.entries) (same_memory-true first.memory second.memory memories.0)
      ∙ ap (λ n. of second.kind second.memory n (meaning first).bytes first.sites.entries) size
      ∙ ap (λ all. of second.kind second.memory second.size all first.sites.entries) bytes
      ∙ ap (λ all. of second.kind second.memory second.size (meaning second).bytes all) sites

pub difference-none : (first second : FileHunk) (number : ℕ) → meaning first ≡ meaning second → hunk_difference number first second ≡ None
difference-none first second number same =
    let kind : first.kind ≡ second.kind = ap (λ (is : Meaning). is.kind) same in
    let memory : first.memory ≡ second.memory = ap (λ (is : Meaning). is.memory) same in
    let size : first.size ≡ second.size = ap (λ (is : Meaning). is.size) same in
    let sites : first.sites.entries ≡ second.sites.entries = ap (λ (is : Meaning). is.sites) same in
    let bytes : map (byte_or_zero first.content) (range_with_len 0 (4 * first.size)) ≡ map (byte_or_zero second.content) (range_with_len 0 (4 * first.size)) =
    ap (λ (is : Meaning). is.bytes) same ∙ ap (λ n. map (byte_or_zero second.content) (range_with_len 0 (4 * n))) (sym size) in
    let differs : ℕ → Bool = λ i. not (has_same_byte first.content second.content i && has_same_target first.sites.entries second.sites.entries i) in
    let nowhere : IsLowest differs 0 (4 * first.size) None = λ i low high.
    let byte = bytes-from first.content second.content (4 * first.size) bytes i high in
    let target : has_same_target first.sites.entries second.sites.entries i ≡ true = rw sites (option_eq-itself (target_at second.sites.entries i)) in
    rw (byte, target) refl in
    let none : first_offset first second ≡ None = sym (lowest-is differs 0 (4 * first.size) (4 * first.size) None (zero-add (4 * first.size)) nowhere) in
    unless-neither _ _ _ (ap (is_same_kind first.kind) (sym kind) ∙ same_kind-itself first.kind)
    (unless-neither _ _ _ (ap (is_same_memory first.memory) (sym memory) ∙ same_memory-itself first.memory)
    (unless-neither _ _ _ (eq-eqb first.size second.size size) (ap (option_map (difference_at number first second)) none)))

-- ---- files

means-same : (count others number : ℕ) (first second : List FileHunk) → All (IsLoadHunk count) first → All (IsLoadHunk others) second → length first ≡ length second
    → hunks_difference number first second ≡ None → map meaning first ≡ map meaning second
means-same count others number [] [] valid validated counted none = refl
means-same count others number [] (y ∷ ys) valid validated counted none = absurd (omega arith)
means-same count others number (x ∷ xs) [] valid validated counted none = absurd (omega arith)
means-same count others number (x ∷ xs) (y ∷ ys) valid validated counted none =
    let both = option_or-none (hunk_difference number x y) (hunks_difference (number + 1) xs ys) none in
    ap (λ is. is ∷ map meaning xs) (meaning-same count others x y (All-head (IsLoadHunk count) x xs valid) (All-head (IsLoadHunk others) y ys validated) number both.0)
    ∙ ap (λ all. meaning y ∷ all) (means-same count others (number + 1) xs ys (All-tail (IsLoadHunk count) x xs valid) (All-tail (IsLoadHunk others) y ys validated) (omega arith) both.1)

differences-none : (number : ℕ) (first second : List FileHunk) → map meaning first ≡ map meaning second → hunks_difference number first second ≡ None
differences-none number [] ys same = refl
differences-none number (x ∷ xs) [] same = refl
differences-none number (x ∷ xs) (y ∷ ys) same =
    let heads : meaning x ≡ meaning y = cc same in
    let tails : map meaning xs ≡ map meaning ys = cc same in
    ap (λ one. option_or one (hunks_difference (number + 1) xs ys)) (difference-none x y number heads) ∙ differences-none (number + 1) xs ys tails

pub no-difference : NoDifference
no-difference first second valid others = (
  λ none.
      let both = unless-none (length first == length second) _ _ none in
      means-same (length first) (length second) 0 first second valid.each others.each (eqb-true (length first) (length second) both.0) both.1,
  λ same.
      let counted : length first ≡ length second = sym (length-map first meaning) ∙ ap length same ∙ length-map second meaning in
      unless-neither _ _ _ (eq-eqb (length first) (length second) counted) (differences-none 0 first second same),
)
