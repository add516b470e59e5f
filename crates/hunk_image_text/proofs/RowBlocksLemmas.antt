-- The lines of the rows of a hunk, block by block.
use Rattle.std.proofs.Common.{◌≡◌, ◌≤◌, ◌+◌, ◌*◌, ℕ, List, ◌++◌, length, take, drop, ap, sym, ◌∙◌, arith}
use Rattle.std.proofs.lemmas.List.{drop-take, take-take, take_all}
use Rattle.hunk_image_text.specs.Rows.{row_lines}
use Rattle.hunk_image_text.specs.declared.image_form.ImageForm.{ImageForm}
use Rattle.hunk_image_text.proofs.RowsLemmas.{row_lines-at_block}

-- the bytes of the block with that index: 4096, or fewer if the hunk ends
abbrev pub block_of : List ℕ → ℕ → List ℕ
block_of bytes index = take 4096 (drop (4096 * index) bytes)

-- the lines of the blocks before the one with that index
abbrev pub lines_before : ImageForm → ℕ → List ℕ → ℕ → List ℕ
lines_before form base bytes index = row_lines form base (take (4096 * index) bytes)

-- the lines of the block with that index
abbrev pub block_lines : ImageForm → ℕ → List ℕ → ℕ → List ℕ
block_lines form base bytes index = row_lines form (base + 4096 * index) (block_of bytes index)

-- the lines from that block on
pub lines_from : ImageForm → ℕ → List ℕ → ℕ → List ℕ
lines_from form base bytes index = row_lines form (base + 4096 * index) (drop (4096 * index) bytes)

module _ (form : ImageForm) where
  pub row_lines-around : (base : ℕ) (bytes : List ℕ) (index : ℕ) → lines_before form base bytes index ++ lines_from form base bytes index ≡ row_lines form base bytes
  unfolding lines_from
  row_lines-around base bytes index = sym (row_lines-at_block form base index bytes)

  pub lines_before-more : (base : ℕ) (bytes : List ℕ) (index : ℕ) → lines_before form base bytes (index + 1) ≡ lines_before form base bytes index ++ block_lines form base bytes index
  lines_before-more base bytes index =
      let next : 4096 * (index + 1) ≡ 4096 * index + 4096 = omega arith in
      ap (λ end. row_lines form base (take end bytes)) next
      ∙ row_lines-at_block form base index (take (4096 * index + 4096) bytes)
      ∙ ap (λ front. row_lines form base front ++ row_lines form (base + 4096 * index) (drop (4096 * index) (take (4096 * index + 4096) bytes))) (take-take (4096 * index) (4096 * index + 4096) bytes (omega arith))
      ∙ ap (λ block. lines_before form base bytes index ++ row_lines form (base + 4096 * index) block) (drop-take (4096 * index) 4096 bytes)

  pub lines_before-all : (base : ℕ) (bytes : List ℕ) (index : ℕ) → length bytes ≤ 4096 * index → lines_before form base bytes index ≡ row_lines form base bytes
  lines_before-all base bytes index all = ap (λ front. row_lines form base front) (take_all (4096 * index) bytes all)
