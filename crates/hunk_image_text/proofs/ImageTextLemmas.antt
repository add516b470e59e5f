-- The lines of the hunks of an image, around those of one hunk, and how long they are.
use Rattle.std.proofs.Common.{◌≡◌, ◌<◌, ◌≤◌, ◌+◌, ◌*◌, ◌^◌, ℕ, List, [], ◌∷◌, ◌++◌, length, take, slice_index_or, Vec, sym, ap, subst, ◌∙◌, zero-add, append-nil, arith}
use Rattle.std.specs.List.{All, enumerate_from, flat_map}
use Rattle.std.proofs.lemmas.Grind.{flat_map-append}
use Rattle.std.proofs.lemmas.List.{get_or-map, length-append, length-map, take_all, take_more}
use Rattle.std.proofs.lemmas.List.FromFn.{get_or-enumerate_from, length-enumerate_from}
use Rattle.hex.specs.Hex.{encode_with}
use Rattle.hunk_loader.specs.Image.{hunks_of}
use Rattle.hunk_base.proofs.DigitsLemmas.{length-decimal}
use Rattle.hunk_image_text.specs.ImageText.{EndsInside, all_hunk_lines, closing, hunk_heading, hunk_lines, image_text, numbered_lines, opening}
use Rattle.hunk_image_text.specs.Rows.{row_lines}
use Rattle.hunk_image_text.specs.declared.image_form.ImageForm.{ImageForm}
use Rattle.hunk_image_text.specs.declared.image_form.ImageForm.TheVariants.{Report, SRecords}
use Rattle.hunk_image_text.proofs.RowsLemmas.{length-eight_digits, length-flat_map-le, length-row_lines}

-- ---- hunks

-- the hunk with that number, whose base and bytes are these
pub record IsHunk (hunks : List (ℕ × List ℕ)) (number base : ℕ) (bytes : List ℕ) : Type 0 where
  pub within : number < length hunks
  pub at : slice_index_or hunks number (base, bytes) ≡ (base, bytes)

pub length-hunks_of : {A : Type 0} (hunks : List (ℕ × Vec ℕ A)) → length (hunks_of hunks) ≡ length hunks
length-hunks_of {A} hunks = let seen : ℕ × Vec ℕ A → ℕ × List ℕ = λ h. (h.0, h.1.items) in length-map hunks seen

hunks_of-at : {A : Type 0} (hunks : List (ℕ × Vec ℕ A)) (number : ℕ) (hunk : ℕ × Vec ℕ A) (bytes : List ℕ) → number < length hunks → hunk ≡ slice_index_or hunks number hunk → bytes ≡ hunk.1.items → slice_index_or (hunks_of hunks) number (hunk.0, bytes) ≡ (hunk.0, bytes)
hunks_of-at {A} hunks number hunk bytes within found same =
    let seen : ℕ × Vec ℕ A → ℕ × List ℕ = λ h. (h.0, h.1.items) in
    let with_bytes : List ℕ → ℕ × List ℕ = λ b. (hunk.0, b) in
    get_or-map seen hunks number hunk (hunk.0, bytes) within ∙ ap seen (sym found) ∙ ap with_bytes (sym same)

-- a hunk as `Image::hunks` returns it
pub IsHunk-hunks_of : {A : Type 0} (hunks : List (ℕ × Vec ℕ A)) (number : ℕ) (hunk : ℕ × Vec ℕ A) (bytes : List ℕ) → number < length hunks → hunk ≡ slice_index_or hunks number hunk → bytes ≡ hunk.1.items → IsHunk (hunks_of hunks) number hunk.0 bytes
IsHunk-hunks_of {A} hunks number hunk bytes within found same =
    record {
      within = omega (arith, within, length-hunks_of hunks);
      at = hunks_of-at hunks number hunk bytes within found same;
    }

pub ends_inside : (hunks : List (ℕ × List ℕ)) (number base : ℕ) (bytes : List ℕ) → IsHunk hunks number base bytes → All EndsInside hunks → base + length bytes ≤ 2 ^ 32
ends_inside hunks number base bytes here inside = subst EndsInside here.at (inside number (base, bytes) here.within)

numbered-at : (hunks : List (ℕ × List ℕ)) (number base : ℕ) (bytes : List ℕ) → IsHunk hunks number base bytes → slice_index_or (enumerate_from 0 hunks) number (number, (base, bytes)) ≡ (number, (base, bytes))
numbered-at hunks number base bytes here =
    let with_number : ℕ → ℕ × (ℕ × List ℕ) = λ n. (n, slice_index_or hunks number (base, bytes)) in
    let with_hunk : ℕ × List ℕ → ℕ × (ℕ × List ℕ) = λ hunk. (number, hunk) in
    get_or-enumerate_from 0 hunks number (number, (base, bytes)) here.within
    ∙ ap with_number (zero-add number)
    ∙ ap with_hunk here.at

-- ---- the lines of hunks

module _ (form : ImageForm) where
  -- the lines of the first `count` hunks
  abbrev pub first_hunk_lines : List (ℕ × List ℕ) → ℕ → List ℕ
  first_hunk_lines hunks count = flat_map (numbered_lines form) (take count (enumerate_from 0 hunks))

  pub first_hunk_lines-more : (hunks : List (ℕ × List ℕ)) (number base : ℕ) (bytes : List ℕ) → IsHunk hunks number base bytes → first_hunk_lines hunks (number + 1) ≡ first_hunk_lines hunks number ++ hunk_lines form number base bytes
  first_hunk_lines-more hunks number base bytes here =
      let numbered = enumerate_from 0 hunks in
      let within : number < length numbered = omega (arith, length-enumerate_from 0 hunks, here.within) in
      ap (flat_map (numbered_lines form)) (take_more numbered number (number, (base, bytes)) within)
      ∙ flat_map-append (numbered_lines form) (take number numbered) (slice_index_or numbered number (number, (base, bytes)) ∷ [])
      ∙ ap (λ last. first_hunk_lines hunks number ++ last) (append-nil _ ∙ ap (numbered_lines form) (numbered-at hunks number base bytes here))

  pub first_hunk_lines-all : (hunks : List (ℕ × List ℕ)) (number : ℕ) → length hunks ≤ number → first_hunk_lines hunks number ≡ all_hunk_lines form hunks
  first_hunk_lines-all hunks number all = ap (flat_map (numbered_lines form)) (take_all number (enumerate_from 0 hunks) (omega (arith, length-enumerate_from 0 hunks)))

-- ---- lengths

pub length-opening : (form : ImageForm) → length (opening form) ≤ 64
unfolding encode_with
length-opening Report = omega arith
length-opening SRecords = omega arith

pub length-closing : (form : ImageForm) → length (closing form) ≤ 64
unfolding encode_with
length-closing Report = omega arith
length-closing SRecords = omega arith

length-hunk_heading : (form : ImageForm) (number base size : ℕ) → number < 2 ^ 64 → size < 2 ^ 64 → length (hunk_heading form number base size) ≤ 64
length-hunk_heading Report number base size small fits =
    simp length-append (omega (arith, length-eight_digits base, length-decimal number small, length-decimal size fits))
length-hunk_heading SRecords number base size small fits = omega arith

-- the lines of one hunk
most : ℕ
most = 64 + 2 ^ 28 * 42

length-numbered_lines : (form : ImageForm) (number : ℕ) (hunk : ℕ × List ℕ) → number < 2 ^ 64 → EndsInside hunk → length (numbered_lines form (number, hunk)) ≤ most
unfolding most
length-numbered_lines form number hunk small inside =
    let size : length hunk.1 ≤ 2 ^ 32 = omega arith in
    let heading = hunk_heading form number hunk.0 (length hunk.1) in
    let rows = row_lines form hunk.0 hunk.1 in
    omega (arith, length-append heading rows, length-hunk_heading form number hunk.0 (length hunk.1) small (omega arith), length-row_lines form hunk.0 hunk.1 size)

pub length-all_hunk_lines-lt : (form : ImageForm) (hunks : List (ℕ × List ℕ)) → length hunks < 2 ^ 16 → All EndsInside hunks → length (all_hunk_lines form hunks) < 2 ^ 60
unfolding most
length-all_hunk_lines-lt form hunks few inside =
    let numbered = enumerate_from 0 hunks in
    let Short : ℕ × (ℕ × List ℕ) → Type 0 = λ hunk. length (numbered_lines form hunk) ≤ most in
    let each : All Short numbered = λ k d within.
    let found : k < length hunks = omega (arith, within, length-enumerate_from 0 hunks) in
    subst Short (sym (get_or-enumerate_from 0 hunks k d found)) (length-numbered_lines form (0 + k) (slice_index_or hunks k d.1) (omega (arith, found, few)) (inside k d.1 found)) in
    omega (arith, length-flat_map-le (numbered_lines form) most numbered each, length-enumerate_from 0 hunks)

pub length-image_text-lt : (form : ImageForm) (hunks : List (ℕ × List ℕ)) → length hunks < 2 ^ 16 → All EndsInside hunks → length (image_text form hunks) < 2 ^ 61
length-image_text-lt form hunks few inside =
    let lines = all_hunk_lines form hunks in
    omega (arith, length-append (opening form) (lines ++ closing form), length-append lines (closing form), length-opening form, length-closing form, length-all_hunk_lines-lt form hunks few inside)
