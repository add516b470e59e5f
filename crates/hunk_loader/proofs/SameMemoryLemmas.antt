-- Two load files whose hunks have the same sizes load to the same memory everywhere exactly if their
-- hunks have the same bytes and sites.
use Rattle.std.proofs.Common.{◌≡◌, inl, inr, ℕ, ◌+◌, ◌*◌, ◌^◌, ◌<◌, ◌≤◌, List, [], ◌∷◌, length, map, get_or, slice_index, sum, eq-eqb, refl, sym, ap, subst, ◌∙◌, arith}
use Rattle.std.specs.List.{All, range_with_len, zip}
use Rattle.std.proofs.lemmas.Bool.{cases_lt}
use Rattle.std.proofs.lemmas.List.{ext_get_or, get_or-map, get_or_past, length-map}
use Rattle.std.proofs.lemmas.List.Elements.{All-head, All-tail}
use Rattle.std.proofs.lemmas.List.Sums.{sum-map}
use Rattle.std.proofs.lemmas.Slice.Zip.{get_or-zip, length-zip}
use Rattle.hunk_base.specs.Sites.{StandFrom}
use Rattle.hunk_words.specs.declared.kinds.HunkKind.TheVariants.{Code}
use Rattle.hunk_words.specs.declared.kinds.Memory.TheVariants.{Any}
use Rattle.hunk_loadfile.specs.LoadHunk.{FileHunk}
use Rattle.hunk_loadfile.specs.Meaning.{meaning}
use Rattle.hunk_loadfile.specs.Patching.{byte_or_zero, patched, patched_bytes}
use Rattle.hunk_loadfile.specs.Rules.{IsLoadHunk}
use Rattle.hunk_loadfile.proofs.DifferenceLawLemmas.{bytes-same}
use Rattle.hunk_loadfile.proofs.LoadHunkLemmas.{most_content-le}
use Rattle.hunk_loadfile.proofs.NormalMeaningLemmas.{meaning-bytes}
use Rattle.hunk_loadfile.proofs.PatchingLemmas.{patched_bytes-alike, slice_index-patched_bytes}
use Rattle.hunk_loader.specs.Laws.{SameMemoryTellsHunks, before_placing}
use Rattle.hunk_loader.specs.Loading.{loaded, loaded_bytes}
use Rattle.hunk_loader.specs.Sizes.{sizes_of}
use Rattle.hunk_loader.proofs.LoadingLemmas.{loaded_from}
use Rattle.hunk_loader.proofs.MovedBaseLemmas.{MovedUp, bytes-before, sites-told}
use Rattle.hunk_loader.proofs.StackedLemmas.{Placed-moved, length-moved, moved, moved-itself, moved-none, moved-other}

-- ---- from the hunks to memory

-- the content lies in the hunk
content-fits : (count : ℕ) (hunk : FileHunk) → IsLoadHunk count hunk → length hunk.content ≤ 4 * hunk.size
content-fits count hunk valid = omega (arith, valid.content, most_content-le hunk.kind hunk.size)

loaded_bytes-alike : (all : List ℕ) (count others : ℕ) (x y : FileHunk) → IsLoadHunk count x → IsLoadHunk others y → x.size ≡ y.size → before_placing x ≡ before_placing y → loaded_bytes all x ≡ loaded_bytes all y
loaded_bytes-alike all count others x y valid validated size same =
    let byte : (k : ℕ) → slice_index x.content k ≡ slice_index y.content k =
    λ k. sym (meaning-bytes x (content-fits count x valid) k) ∙ ap (λ (p : List ℕ × List (ℕ × ℕ)). slice_index p.0 k) same ∙ meaning-bytes y (content-fits others y validated) k in
    patched_bytes-alike (4 * x.size) x.content y.content x.sites.entries (slice_index all) byte
    ∙ ap (λ (p : List ℕ × List (ℕ × ℕ)). patched_bytes (4 * x.size) y.content p.1 (slice_index all)) same
    ∙ ap (λ n. patched_bytes (4 * n) y.content y.sites.entries (slice_index all)) size

loaded-alike : (all bases : List ℕ) (count others : ℕ) (first second : List FileHunk) → All (IsLoadHunk count) first → All (IsLoadHunk others) second → sizes_of first ≡ sizes_of second
    → map before_placing first ≡ map before_placing second → loaded_from all bases first ≡ loaded_from all bases second
loaded-alike all [] count others first second valid validated sizes same = refl
loaded-alike all (base ∷ bases) count others [] [] valid validated sizes same = refl
loaded-alike all (base ∷ bases) count others [] (y ∷ ys) valid validated sizes same = absurd (cc)
loaded-alike all (base ∷ bases) count others (x ∷ xs) [] valid validated sizes same = absurd (cc)
loaded-alike all (base ∷ bases) count others (x ∷ xs) (y ∷ ys) valid validated sizes same =
    let size : x.size ≡ y.size = cc in
    let later : sizes_of xs ≡ sizes_of ys = cc in
    let head : before_placing x ≡ before_placing y = cc same in
    let tail : map before_placing xs ≡ map before_placing ys = cc same in
    ap (λ bytes. (base, bytes) ∷ loaded_from all bases xs) (loaded_bytes-alike all count others x y (All-head (IsLoadHunk count) x xs valid) (All-head (IsLoadHunk others) y ys validated) size head)
    ∙ ap (λ rest. (base, loaded_bytes all y) ∷ rest) (loaded-alike all bases count others xs ys (All-tail (IsLoadHunk count) x xs valid) (All-tail (IsLoadHunk others) y ys validated) later tail)

-- ---- from memory to one hunk

-- the stack of all hunks, and with one of them moved up
stack-moved : (sizes : List ℕ) → MovedUp (length sizes) (slice_index (moved sizes (length sizes))) (λ target. slice_index (moved sizes target))
stack-moved sizes = record {
  up = λ target low. moved-itself sizes target low ∙ ap (λ base. base + 2 ^ 26) (sym (moved-none sizes target));
  same = λ target hunk apart. moved-other sizes target hunk apart ∙ sym (moved-none sizes hunk);
}

small-bytes : (bytes : List ℕ) → All (λ b. b < 256) bytes → (k : ℕ) → slice_index bytes k < 256
small-bytes bytes all k = elim (cases_lt k (length bytes)) [ inl low ↦ all k 0 low | inr past ↦ omega (arith, get_or_past bytes k 0 past) ]

module _ (sizes : List ℕ) (first second : FileHunk) (valid : IsLoadHunk (length sizes) first) (validated : IsLoadHunk (length sizes) second) (size : first.size ≡ second.size)
    (same : (hunk : ℕ) → loaded_bytes (moved sizes hunk) first ≡ loaded_bytes (moved sizes hunk) second) where
  byte-same : (hunk i : ℕ) → i < 4 * first.size → patched first.content first.sites.entries (slice_index (moved sizes hunk)) i ≡ patched second.content second.sites.entries (slice_index (moved sizes hunk)) i
  byte-same hunk i low =
      sym (slice_index-patched_bytes (4 * first.size) first.content first.sites.entries (slice_index (moved sizes hunk)) i low)
      ∙ ap (λ bytes. slice_index bytes i) (same hunk)
      ∙ slice_index-patched_bytes (4 * second.size) second.content second.sites.entries (slice_index (moved sizes hunk)) i (omega (arith, size))

  apart : StandFrom 0 (4 * first.size) first.sites.entries
  apart = subst (λ limit. StandFrom 0 limit first.sites.entries) valid.limit valid.typed.apart

  separate : StandFrom 0 (4 * first.size) second.sites.entries
  separate = subst (λ limit. StandFrom 0 limit second.sites.entries) (validated.limit ∙ ap (λ n. 4 * n) (sym size)) validated.typed.apart

  sites : first.sites.entries ≡ second.sites.entries
  sites =
      sites-told (length sizes) (4 * first.size) first.content second.content first.sites.entries second.sites.entries (slice_index (moved sizes (length sizes))) (λ target. slice_index (moved sizes target)) (stack-moved sizes)
      (record { placed = byte-same (length sizes); moved_up = byte-same }) apart separate valid.targets validated.targets

  byte : (i : ℕ) → i < 4 * first.size → slice_index first.content i ≡ slice_index second.content i
  byte =
      let bases : ℕ → ℕ = slice_index (moved sizes (length sizes)) in
      bytes-before first.content second.content first.sites.entries (4 * first.size) bases apart (small-bytes first.content valid.typed.bytes) (small-bytes second.content validated.typed.bytes)
      (λ k low. byte-same (length sizes) k low ∙ ap (λ entries. patched second.content entries bases k) (sym sites))

  pub hunk-told : before_placing first ≡ before_placing second
  hunk-told =
      let bytes = bytes-same first.content second.content (4 * first.size) (λ i low. eq-eqb (slice_index first.content i) (slice_index second.content i) (byte i low)) ∙ ap (λ n. map (byte_or_zero second.content) (range_with_len 0 (4 * n))) size in
      ap (λ all. (all, first.sites.entries)) bytes ∙ ap (λ entries. ((meaning second).bytes, entries)) sites

-- ---- from memory to all hunks

-- what is returned where there is no hunk
abbrev no_hunk : FileHunk
no_hunk = record { kind = Code; memory = Any; size = 0; content = []; sites = record { limit = 0; entries = [] }; symbols = []; debugs = [] }

loaded-at : (hunks : List FileHunk) (bases : List ℕ) (k : ℕ) → k < length hunks → length bases ≡ length hunks
    → get_or (loaded hunks bases) k (0, []) ≡ (slice_index bases k, loaded_bytes bases (get_or hunks k no_hunk))
loaded-at hunks bases k low counted =
    get_or-map (λ (placed : ℕ × FileHunk). (placed.0, loaded_bytes bases placed.1)) (zip bases hunks) k (0, no_hunk) (0, []) (omega (arith, length-zip bases hunks))
    ∙ ap (λ (placed : ℕ × FileHunk). (placed.0, loaded_bytes bases placed.1)) (get_or-zip bases hunks k (0, no_hunk) (omega arith) low)

pub same_memory-tells_hunks : SameMemoryTellsHunks
same_memory-tells_hunks first second valid validated sizes = (
  λ everywhere.
      let all : List ℕ = sizes_of first in
      let counts : length all ≡ length first = length-map first (λ hunk. hunk.size) in
      let counted : length first ≡ length second = sym counts ∙ ap length sizes ∙ length-map second (λ hunk. hunk.size) in
      let small : 4 * sum all ≤ 2 ^ 26 = omega (arith, valid.small, sum-map (λ (hunk : FileHunk). hunk.size) first) in
      let memory : (hunk : ℕ) → loaded first (moved all hunk) ≡ loaded second (moved all hunk) = λ hunk. everywhere (moved all hunk) (Placed-moved all hunk small) in
      ext_get_or ([], []) (map before_placing first) (map before_placing second) (length-map first before_placing ∙ counted ∙ sym (length-map second before_placing)) (λ k h.
      let low : k < length first = omega (arith, length-map first before_placing) in
      let high : k < length second = omega arith in
      let one : FileHunk = get_or first k no_hunk in
      let other : FileHunk = get_or second k no_hunk in
      let size : one.size ≡ other.size = sym (get_or-map (λ (hunk : FileHunk). hunk.size) first k no_hunk 0 low) ∙ ap (λ ns. slice_index ns k) sizes ∙ get_or-map (λ (hunk : FileHunk). hunk.size) second k no_hunk 0 high in
      let loads : (hunk : ℕ) → loaded_bytes (moved all hunk) one ≡ loaded_bytes (moved all hunk) other = λ hunk.
      ap (λ (p : ℕ × List ℕ). p.1) (sym (loaded-at first (moved all hunk) k low (length-moved all hunk ∙ counts)) ∙ ap (λ made. get_or made k (0, [])) (memory hunk) ∙ loaded-at second (moved all hunk) k high (length-moved all hunk ∙ counts ∙ counted)) in
      let is : IsLoadHunk (length all) one = subst (λ n. IsLoadHunk n one) (sym counts) (valid.each k no_hunk low) in
      let is_too : IsLoadHunk (length all) other = subst (λ n. IsLoadHunk n other) (sym (counts ∙ counted)) (validated.each k no_hunk high) in
      get_or-map before_placing first k no_hunk ([], []) low ∙ hunk-told all one other is is_too size loads ∙ sym (get_or-map before_placing second k no_hunk ([], []) high)),
  λ same bases placed. loaded-alike bases bases (length first) (length second) first second valid.each validated.each sizes same,
)
