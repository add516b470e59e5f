-- What changes of load files keep their meaning, and what they do the second time.
use Rattle.std.proofs.Common.{◌≡◌, ◌==◌, ◌≤◌, ◌+◌, ◌*◌, ◌/◌, ◌∙◌, ◌||◌, Bool, not, inl, inr, ℕ, zero, suc, min, List, [], length, map, take, length-take, refl, sym, ap, arith}
use Rattle.std.specs.List.{range_with_len}
use Rattle.std.specs.Option.{is_some}
use Rattle.std.proofs.Math.Path.{fun_ext}
use Rattle.std.proofs.lemmas.Bool.{cases_Bool, cases_eq}
use Rattle.std.proofs.lemmas.List.{take_all}
use Rattle.hunk_loadfile.specs.LoadHunk.{FileHunk}
use Rattle.hunk_loadfile.specs.Meaning.{Meaning, meaning}
use Rattle.hunk_loadfile.specs.MeaningLaws.{IsDoneOnce, KeepsTheMeaning, NormalMeansTheSame, NormalOnce, StrippedAndTrimmedOnce, StrippedMeansTheSame, StrippedOnce, TrimmedMeansTheSame, TrimmedOnce}
use Rattle.hunk_loadfile.specs.NormalForm.{nonzero_length, normal_hunk}
use Rattle.hunk_loadfile.specs.Patching.{byte_or_zero, site_over}
use Rattle.hunk_loadfile.specs.Stripping.{stripped, stripped_hunk}
use Rattle.hunk_loadfile.specs.Trimming.{is_kept, kept_end, kept_length, trimmed, trimmed_hunk}
use Rattle.hunk_loadfile.proofs.MappedLemmas.{map-map, map-same}
use Rattle.hunk_loadfile.proofs.TrimmingLemmas.{kept_end-le, slice_index-trimmed}

-- ---- changes of one hunk after another

once-mapped : (change : FileHunk → FileHunk) → ((hunk : FileHunk) → change (change hunk) ≡ change hunk) → IsDoneOnce (map change)
once-mapped change once hunks = map-map change change hunks ∙ map-same (λ hunk. change (change hunk)) change once hunks

meaning-mapped : (change : FileHunk → FileHunk) → ((hunk : FileHunk) → meaning (change hunk) ≡ meaning hunk) → KeepsTheMeaning (map change)
meaning-mapped change same hunks = map-map change meaning hunks ∙ map-same (λ hunk. meaning (change hunk)) meaning same hunks

-- ---- content that is cut

-- the end of what is kept is the same among fewer places, if it is one of them
pub kept_end-fewer : (kept : ℕ → Bool) (count n : ℕ) → kept_end kept n ≤ count → count ≤ n → kept_end kept count ≡ kept_end kept n
kept_end-fewer kept count zero low high = let none : count ≡ 0 = omega arith in ap (kept_end kept) none
kept_end-fewer kept count (suc n) low high = elim (cases_eq count (suc n)) [
  | inl all ↦ ap (kept_end kept) all
  | inr fewer ↦ elim (cases_Bool (kept n)) [
    | inl stays ↦ let past : suc n ≤ count = rw stays at low in absurd (omega arith)
    | inr goes ↦ let below : kept_end kept n ≤ count = rw goes at low in rw goes (kept_end-fewer kept count n below (omega arith))
  ]
]

module _ {T : Type 0} (content : List ℕ) (sites : List (ℕ × T)) where
  abbrev kept : ℕ
  kept = kept_length content sites

  is_kept-cut : is_kept (take kept content) sites ≡ is_kept content sites
  is_kept-cut = fun_ext (λ i. ap (λ byte. not (byte == 0) || is_some (site_over sites i)) (slice_index-trimmed content sites i))

  -- Cutting once more cuts nothing.
  kept_length-cut : kept_length (take kept content) sites ≡ kept
  kept_length-cut =
      let counted : length (take kept content) ≡ min kept (length content) = length-take kept content in
      let low : kept_end (is_kept content sites) (length content) ≤ length (take kept content) = omega (arith, counted, kept_end-le (is_kept content sites) (length content)) in
      let fewer = kept_end-fewer (is_kept content sites) (length (take kept content)) (length content) low (omega (arith, counted)) in
      ap (λ test. 4 * ((kept_end test (length (take kept content)) + 3) / 4)) is_kept-cut ∙ ap (λ end. 4 * ((end + 3) / 4)) fewer

  pub cut-once : take (kept_length (take kept content) sites) (take kept content) ≡ take kept content
  cut-once = take_all (kept_length (take kept content) sites) (take kept content) (omega (arith, kept_length-cut, length-take kept content))

  pub bytes-cut : (count : ℕ) → map (byte_or_zero (take kept content)) (range_with_len 0 count) ≡ map (byte_or_zero content) (range_with_len 0 count)
  bytes-cut count = map-same (byte_or_zero (take kept content)) (byte_or_zero content) (slice_index-trimmed content sites) (range_with_len 0 count)

-- ---- the laws

pub stripped-once : StrippedOnce
stripped-once = once-mapped stripped_hunk (λ hunk. refl)

trimmed_hunk-once : (hunk : FileHunk) → trimmed_hunk (trimmed_hunk hunk) ≡ trimmed_hunk hunk
trimmed_hunk-once hunk = ap (λ content. let cut : FileHunk = record hunk { content = content } in cut) (cut-once hunk.content hunk.sites.entries)

pub trimmed-once : TrimmedOnce
trimmed-once = once-mapped trimmed_hunk trimmed_hunk-once

pub stripped_and_trimmed-once : StrippedAndTrimmedOnce
stripped_and_trimmed-once hunks =
    let both : FileHunk → FileHunk = λ hunk. trimmed_hunk (stripped_hunk hunk) in
    let one : (xs : List FileHunk) → trimmed (stripped xs) ≡ map both xs = λ xs. map-map stripped_hunk trimmed_hunk xs in
    one (trimmed (stripped hunks)) ∙ ap (map both) (one hunks) ∙ once-mapped both (λ hunk. trimmed_hunk-once (stripped_hunk hunk)) hunks ∙ sym (one hunks)

pub normal-once : NormalOnce
normal-once = once-mapped normal_hunk (λ hunk. ap (λ content. let cut : FileHunk = record (stripped_hunk hunk) { content = content } in cut) (cut-once {T = ℕ} hunk.content []))

pub stripped-means_the_same : StrippedMeansTheSame
stripped-means_the_same = meaning-mapped stripped_hunk (λ hunk. refl)

-- what a hunk means once its content is cut
meaning-cut : (hunk : FileHunk) (bytes : List ℕ) → map (byte_or_zero bytes) (range_with_len 0 (4 * hunk.size)) ≡ (meaning hunk).bytes → meaning (record hunk { content = bytes }) ≡ meaning hunk
meaning-cut hunk bytes same = ap (λ all. let is : Meaning = record (meaning hunk) { bytes = all } in is) same

pub trimmed-means_the_same : TrimmedMeansTheSame
trimmed-means_the_same =
    meaning-mapped trimmed_hunk (λ hunk. meaning-cut hunk (take (kept_length hunk.content hunk.sites.entries) hunk.content) (bytes-cut hunk.content hunk.sites.entries (4 * hunk.size)))

pub normal-means_the_same : NormalMeansTheSame
normal-means_the_same =
    meaning-mapped normal_hunk (λ hunk. meaning-cut hunk (take (nonzero_length hunk.content) hunk.content) (bytes-cut {T = ℕ} hunk.content [] (4 * hunk.size)))
