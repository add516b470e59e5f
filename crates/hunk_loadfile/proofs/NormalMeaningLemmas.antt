-- Two load files that mean the same have one normal form, and only they have.
use Rattle.std.proofs.Common.{◌≡◌, ◌≤◌, ◌+◌, ◌*◌, ◌/◌, ◌%◌, ◌∙◌, false, inl, inr, ℕ, List, [], ◌∷◌, length, map, take, slice_index, length-take, refl, sym, ap, subst, zero-add, arith}
use Rattle.std.proofs.Math.Path.{fun_ext}
use Rattle.std.proofs.lemmas.Bool.{cases_lt}
use Rattle.std.proofs.lemmas.List.{ext_get_or, get_or_past, get_or-take, length-take-le}
use Rattle.std.proofs.lemmas.List.FromFn.{get_or-map-range_with_len, length-map-range_with_len}
use Rattle.hunk_loadfile.specs.declared.load_form.LoadForm.TheVariants.{Plain}
use Rattle.hunk_loadfile.specs.LoadFile.{IsLoad}
use Rattle.hunk_loadfile.specs.LoadHunk.{FileHunk}
use Rattle.hunk_loadfile.specs.Meaning.{Meaning, meaning}
use Rattle.hunk_loadfile.specs.MeaningLaws.{NormalIsShortest, OneNormalForm}
use Rattle.hunk_loadfile.specs.NormalForm.{nonzero_length, normal_form, normal_hunk}
use Rattle.hunk_loadfile.specs.Patching.{byte_or_zero}
use Rattle.hunk_loadfile.specs.Rules.{IsLoadFile, IsLoadHunk, carried_longwords}
use Rattle.hunk_loadfile.specs.Trimming.{is_kept, kept_end}
use Rattle.hunk_loadfile.specs.WrittenForm.{written_form}
use Rattle.hunk_loadfile.proofs.LoadFileLemmas.{one-load}
use Rattle.hunk_loadfile.proofs.LoadHunkLemmas.{most_content-le}
use Rattle.hunk_loadfile.proofs.MappedLemmas.{map-alike, map-map}
use Rattle.hunk_loadfile.proofs.MeaningLemmas.{kept_end-fewer, normal-means_the_same}
use Rattle.hunk_loadfile.proofs.NormalFormLemmas.{IsLoadFile-normal}
use Rattle.hunk_loadfile.proofs.TrimmingLemmas.{kept_end-least, kept_length-le}
use Rattle.hunk_loadfile.proofs.WrittenFormLemmas.{written_in-is_load}
use Rattle.hunk_loadfile.proofs.WrittenFormLengthLemmas.{written_in-is_short}

-- ---- the bytes in memory tell the content

-- bytes behind an end are 0, so nothing is kept of them
nothing-behind : (content : List ℕ) (i : ℕ) → length content ≤ i → is_kept {T = ℕ} content [] i ≡ false
nothing-behind content i past = let byte : byte_or_zero content i ≡ 0 = get_or_past content i 0 past in rw byte refl

-- more zeros at the end are not kept
nonzero_length-longer : (content bytes : List ℕ) → length content ≤ length bytes → ((i : ℕ) → slice_index bytes i ≡ slice_index content i) → nonzero_length bytes ≡ nonzero_length content
nonzero_length-longer content bytes longer same =
    let one : is_kept {T = ℕ} bytes [] ≡ is_kept {T = ℕ} content [] = fun_ext (λ i. let byte = same i in rw byte refl) in
    let least = kept_end-least (is_kept {T = ℕ} content []) (length bytes) (length content) (λ i past low. nothing-behind content i past) in
    let fewer = kept_end-fewer (is_kept {T = ℕ} content []) (length content) (length bytes) least longer in
    ap (λ test. 4 * ((kept_end test (length bytes) + 3) / 4)) one ∙ ap (λ end. 4 * ((end + 3) / 4)) (sym fewer)

content-longer : (content bytes : List ℕ) → length content % 4 ≡ 0 → length content ≤ length bytes → ((i : ℕ) → slice_index bytes i ≡ slice_index content i)
    → take (nonzero_length content) content ≡ take (nonzero_length bytes) bytes
content-longer content bytes whole longer same =
    let kept : nonzero_length bytes ≡ nonzero_length content = nonzero_length-longer content bytes longer same in
    let fits : nonzero_length content ≤ length content = kept_length-le {T = ℕ} content [] whole in
    let counted = length-take-le (nonzero_length content) content fits in
    let others = length-take-le (nonzero_length bytes) bytes (omega (arith, kept, fits)) in
    ext_get_or 0 (take (nonzero_length content) content) (take (nonzero_length bytes) bytes) (counted ∙ sym kept ∙ sym others)
    (λ i low. get_or-take (nonzero_length content) content i 0 (omega (arith, counted)) ∙ sym (same i) ∙ sym (get_or-take (nonzero_length bytes) bytes i 0 (omega (arith, counted, kept))))

-- the byte of a hunk at each offset
pub meaning-bytes : (hunk : FileHunk) → length hunk.content ≤ 4 * hunk.size → (i : ℕ) → slice_index (meaning hunk).bytes i ≡ slice_index hunk.content i
meaning-bytes hunk fits i = elim (cases_lt i (4 * hunk.size)) [
  | inl low ↦ get_or-map-range_with_len (byte_or_zero hunk.content) 0 (4 * hunk.size) i i 0 low (zero-add i)
  | inr past ↦
      get_or_past (meaning hunk).bytes i 0 (omega (arith, length-map-range_with_len (byte_or_zero hunk.content) 0 (4 * hunk.size)))
      ∙ sym (get_or_past hunk.content i 0 (omega arith))
]

-- ---- the meaning tells the normal form

-- the hunk in normal form that has this meaning
abbrev normal_of : Meaning → FileHunk
normal_of is = record {
  kind = is.kind;
  memory = is.memory;
  size = is.size;
  content = take (nonzero_length is.bytes) is.bytes;
  sites = record { limit = 4 * is.size; entries = is.sites };
  symbols = [];
  debugs = [];
}

normal_hunk-is : (count : ℕ) (hunk : FileHunk) → IsLoadHunk count hunk → normal_hunk hunk ≡ normal_of (meaning hunk)
normal_hunk-is count hunk valid =
    let fits : length hunk.content ≤ 4 * hunk.size = omega (arith, valid.content, most_content-le hunk.kind hunk.size) in
    let content = content-longer hunk.content (meaning hunk).bytes valid.whole (omega (arith, fits, length-map-range_with_len (byte_or_zero hunk.content) 0 (4 * hunk.size))) (meaning-bytes hunk fits) in
    ap (λ bytes. let cut : FileHunk = record (normal_hunk hunk) { content = bytes } in cut) content
    ∙ ap (λ limit. let is : FileHunk = record (normal_of (meaning hunk)) { sites = record { limit = limit; entries = hunk.sites.entries } } in is) valid.limit

normal_form-is : (hunks : List FileHunk) → IsLoadFile hunks → normal_form hunks ≡ map normal_of (map meaning hunks)
normal_form-is hunks valid =
    map-alike (IsLoadHunk (length hunks)) normal_hunk (λ hunk. normal_of (meaning hunk)) (normal_hunk-is (length hunks)) hunks valid.each ∙ sym (map-map meaning normal_of hunks)

-- ---- what is written

carried_longwords-normal : (hunks : List FileHunk) → carried_longwords (normal_form hunks) ≡ 0
carried_longwords-normal [] = refl
carried_longwords-normal (hunk ∷ hunks) = omega (arith, carried_longwords-normal hunks)

normal_form-is_load : (hunks : List FileHunk) → IsLoadFile hunks → IsLoad (normal_form hunks) (written_form (normal_form hunks))
normal_form-is_load hunks valid =
    let normal = IsLoadFile-normal hunks valid in
    written_in-is_load Plain (normal_form hunks) normal (written_in-is_short Plain (normal_form hunks) normal (omega (arith, carried_longwords-normal hunks)))

pub one-normal_form : OneNormalForm
one-normal_form first second valid others = (
  λ written.
      let same = one-load (normal_form first) (normal_form second) (written_form (normal_form first)) (normal_form-is_load first valid) (subst (IsLoad (normal_form second)) (sym written) (normal_form-is_load second others)) in
      sym (normal-means_the_same first) ∙ ap (map meaning) same ∙ normal-means_the_same second,
  λ same. ap written_form (normal_form-is first valid ∙ ap (map normal_of) same ∙ sym (normal_form-is second others)),
)

pub normal-shortest : NormalIsShortest
normal-shortest hunk longwords zeros =
    let least = kept_end-least (is_kept {T = ℕ} hunk.content []) (length hunk.content) (4 * longwords) (λ i past low. let byte = zeros i past low in rw byte refl) in
    omega (arith, least, length-take (nonzero_length hunk.content) hunk.content)
