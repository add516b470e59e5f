-- The lines of rows: one more of them, those of the first whole rows and of the rest, and how long they are.
use Rattle.std.proofs.Common.{◌≡◌, ◌<◌, ◌≤◌, ◌+◌, ◌-◌, ◌*◌, ◌^◌, min, ℕ, zero, suc, List, [], ◌∷◌, ◌++◌, length, take, drop, codes, length-drop, length-take, slice_index_or, inl, inr, refl, sym, ap, ◌∙◌, add-one, add-zero, zero-add, append-nil, append_assoc, arith}
use Rattle.std.specs.Int.{bytes_high_first, div_ceil}
use Rattle.std.specs.List.{All, flat_map, range_with_len}
use Rattle.std.proofs.Math.Nat.{add-suc}
use Rattle.std.proofs.Math.Seq.{drop-append-add}
use Rattle.std.proofs.lemmas.Bool.{cases_lt}
use Rattle.std.proofs.lemmas.Grind.{flat_map-append}
use Rattle.std.proofs.lemmas.List.{drop-append-le, drop_all, length-append, take-append-drop, take-append-le, take_all, take_min}
use Rattle.std.proofs.lemmas.List.Elements.{All-head, All-tail}
use Rattle.std.proofs.lemmas.List.FromFn.{length-range_with_len}
use Rattle.hex.specs.Hex.{lower_digits}
use Rattle.hex.proofs.HexLemmas.{length-encode_with}
use Rattle.hunk_base.specs.Digits.{eight_digits}
use Rattle.hunk_image_text.specs.Rows.{first_row_lines, line_overhead, longest_line, row_count, row_line, row_lines, row_of, row_size}
use Rattle.hunk_image_text.specs.declared.image_form.ImageForm.{ImageForm}
use Rattle.hunk_image_text.specs.declared.image_form.ImageForm.TheVariants.{Report, SRecords}
use Rattle.hunk_image_text.proofs.RecordLemmas.{length-record_line}

-- ---- numbers

pub row_size-positive : (form : ImageForm) → 0 < row_size form
row_size-positive Report = omega arith
row_size-positive SRecords = omega arith

-- a row begins inside its bytes
row-begins : (form : ImageForm) (length index : ℕ) → index < div_ceil length (row_size form) → row_size form * index < length
row-begins Report length index within = omega arith
row-begins SRecords length index within = omega arith

pub row-inside : (form : ImageForm) (length index size : ℕ) → size ≡ row_size form → index < div_ceil length (row_size form) → size * index < length
row-inside form length index size is within = rw is (row-begins form length index within)

-- where there is room for the longest line of each row, there is for one more
pub room-more : (form : ImageForm) (index count : ℕ) → index < count → longest_line form * index + longest_line form ≤ longest_line form * count
room-more Report index count within = omega arith
room-more SRecords index count within = omega arith

-- the lines of 4,096 bytes
pub room-block : (form : ImageForm) (length : ℕ) → length ≤ 4096 → longest_line form * div_ceil length (row_size form) ≤ 10752
room-block Report length small = omega arith
room-block SRecords length small = omega arith

-- the rows of bytes of which the first are whole rows
row_count-append : (form : ImageForm) (front rest : List ℕ) (whole : ℕ) → length front ≡ row_size form * whole → row_count form (front ++ rest) ≡ whole + row_count form rest
row_count-append Report front rest whole size = omega (arith, length-append front rest)
row_count-append SRecords front rest whole size = omega (arith, length-append front rest)

row_count-whole : (form : ImageForm) (front : List ℕ) (whole : ℕ) → length front ≡ row_size form * whole → whole ≡ row_count form front
row_count-whole Report front whole size = omega arith
row_count-whole SRecords front whole size = omega arith

row_lines-none : (form : ImageForm) (base : ℕ) → row_lines form base [] ≡ []
row_lines-none Report base = refl
row_lines-none SRecords base = refl

-- the rows of 4,096 bytes, and so of as many times as many
rows_per_block : ImageForm → ℕ
rows_per_block Report = 256
rows_per_block SRecords = 128

rows_per_block-is : (form : ImageForm) (index : ℕ) → 4096 * index ≡ row_size form * (rows_per_block form * index)
unfolding rows_per_block
rows_per_block-is Report index = omega arith
rows_per_block-is SRecords index = omega arith

-- ---- one more row

range_with_len-suc : (from count : ℕ) → range_with_len from (suc count) ≡ range_with_len from count ++ (from + count) ∷ []
range_with_len-suc from zero = ap (λ last. last ∷ []) (sym (add-zero from))
range_with_len-suc from (suc count) =
    let next : from + 1 + count ≡ from + suc count = omega arith in
    ap (λ rest. from ∷ rest) (range_with_len-suc (from + 1) count ∙ ap (λ last. range_with_len (from + 1) count ++ last ∷ []) next)

-- what lies between `start` and `end`, which is `size` further on or where the bytes end
pub take-between : (bytes : List ℕ) (start size end : ℕ) → end ≡ min (length bytes) (start + size) → start ≤ length bytes → take (end - start) (drop start bytes) ≡ take size (drop start bytes)
take-between bytes start size end cut within =
    let count : end - start ≡ min size (length (drop start bytes)) = omega (arith, length-drop start bytes) in
    ap (λ n. take n (drop start bytes)) count ∙ take_min size (drop start bytes)

-- the line of the row of an index, cut from the bytes up to `end`
pub row_line-between : (form : ImageForm) (base : ℕ) (bytes : List ℕ) (index size end : ℕ) → size ≡ row_size form → end ≡ min (length bytes) (size * index + size) → size * index ≤ length bytes
    → row_line form (base + size * index) (take (end - size * index) (drop (size * index) bytes)) ≡ row_line form (base + row_size form * index) (row_of form bytes index)
row_line-between form base bytes index size end is cut within =
    ap (λ row. row_line form (base + size * index) row) (take-between bytes (size * index) size end cut within)
    ∙ ap (λ s. row_line form (base + s * index) (take s (drop (s * index) bytes))) is

module _ (form : ImageForm) where
  pub first_row_lines-more : (base : ℕ) (bytes : List ℕ) (index : ℕ) → first_row_lines form base bytes (index + 1) ≡ first_row_lines form base bytes index ++ row_line form (base + row_size form * index) (row_of form bytes index)
  first_row_lines-more base bytes index =
      let line_of = λ (row : ℕ). row_line form (base + row_size form * row) (row_of form bytes row) in
      ap (λ count. flat_map line_of (range_with_len 0 count)) (add-one index)
      ∙ ap (flat_map line_of) (range_with_len-suc 0 index)
      ∙ flat_map-append line_of (range_with_len 0 index) ((0 + index) ∷ [])
      ∙ ap (λ last. first_row_lines form base bytes index ++ last) (append-nil (line_of (0 + index)) ∙ ap line_of (zero-add index))

  first_row_lines-suc : (base : ℕ) (bytes : List ℕ) (index : ℕ) → first_row_lines form base bytes (suc index) ≡ first_row_lines form base bytes index ++ row_line form (base + row_size form * index) (row_of form bytes index)
  first_row_lines-suc base bytes index =
      ap (λ count. first_row_lines form base bytes count) (sym (add-one index)) ∙ first_row_lines-more base bytes index

  -- ---- the first whole rows

  row_of-front : (front rest : List ℕ) (index : ℕ) → row_size form * index + row_size form ≤ length front → row_of form (front ++ rest) index ≡ row_of form front index
  row_of-front front rest index within =
      let size : row_size form ≤ length (drop (row_size form * index) front) = omega (arith, length-drop (row_size form * index) front) in
      ap (take (row_size form)) (drop-append-le (row_size form * index) front rest (omega arith)) ∙ take-append-le (row_size form) (drop (row_size form * index) front) rest size

  first_row_lines-front : (base : ℕ) (front rest : List ℕ) (count : ℕ) → row_size form * count ≤ length front → first_row_lines form base (front ++ rest) count ≡ first_row_lines form base front count
  first_row_lines-front base front rest zero within = refl
  first_row_lines-front base front rest (suc count) within =
      let inside : row_size form * count + row_size form ≤ length front = omega arith in
      first_row_lines-suc base (front ++ rest) count
      ∙ ap (λ lines. lines ++ row_line form (base + row_size form * count) (row_of form (front ++ rest) count)) (first_row_lines-front base front rest count (omega arith))
      ∙ ap (λ row. first_row_lines form base front count ++ row_line form (base + row_size form * count) row) (row_of-front front rest count inside)
      ∙ sym (first_row_lines-suc base front count)

  -- ---- the rest

  row_of-behind : (front rest : List ℕ) (whole index : ℕ) → length front ≡ row_size form * whole → row_of form (front ++ rest) (whole + index) ≡ row_of form rest index
  row_of-behind front rest whole index size =
      let at : row_size form * (whole + index) ≡ length front + row_size form * index = omega arith in
      ap (λ start. take (row_size form) (drop start (front ++ rest))) at ∙ ap (take (row_size form)) (drop-append-add front rest (row_size form * index))

  first_row_lines-behind : (base : ℕ) (front rest : List ℕ) (whole count : ℕ) → length front ≡ row_size form * whole
      → first_row_lines form base (front ++ rest) (whole + count) ≡ first_row_lines form base (front ++ rest) whole ++ first_row_lines form (base + row_size form * whole) rest count
  first_row_lines-behind base front rest whole zero size =
      ap (λ count. first_row_lines form base (front ++ rest) count) (add-zero whole) ∙ sym (append-nil (first_row_lines form base (front ++ rest) whole))
  first_row_lines-behind base front rest whole (suc count) size =
      let before = first_row_lines form base (front ++ rest) whole in
      let between = first_row_lines form (base + row_size form * whole) rest count in
      let address : base + row_size form * (whole + count) ≡ base + row_size form * whole + row_size form * count = omega arith in
      ap (λ number. first_row_lines form base (front ++ rest) number) (add-suc whole count)
      ∙ first_row_lines-suc base (front ++ rest) (whole + count)
      ∙ ap (λ lines. lines ++ row_line form (base + row_size form * (whole + count)) (row_of form (front ++ rest) (whole + count))) (first_row_lines-behind base front rest whole count size)
      ∙ ap (λ row. (before ++ between) ++ row_line form (base + row_size form * (whole + count)) row) (row_of-behind front rest whole count size)
      ∙ ap (λ at. (before ++ between) ++ row_line form at (row_of form rest count)) address
      ∙ append_assoc before between (row_line form (base + row_size form * whole + row_size form * count) (row_of form rest count))
      ∙ ap (λ lines. before ++ lines) (sym (first_row_lines-suc (base + row_size form * whole) rest count))

  row_lines-append : (base : ℕ) (front rest : List ℕ) (whole : ℕ) → length front ≡ row_size form * whole → row_lines form base (front ++ rest) ≡ row_lines form base front ++ row_lines form (base + row_size form * whole) rest
  row_lines-append base front rest whole size =
      ap (λ count. first_row_lines form base (front ++ rest) count) (row_count-append form front rest whole size)
      ∙ first_row_lines-behind base front rest whole (row_count form rest) size
      ∙ ap (λ lines. lines ++ row_lines form (base + row_size form * whole) rest) (first_row_lines-front base front rest whole (omega (arith, size)) ∙ ap (λ count. first_row_lines form base front count) (row_count-whole form front whole size))

  -- the rows of the first bytes: `whole` rows of them, or all if there are fewer; and those after
  -- them
  row_lines-split : (base whole start : ℕ) (bytes : List ℕ) → start ≡ row_size form * whole → row_lines form base bytes ≡ row_lines form base (take start bytes) ++ row_lines form (base + start) (drop start bytes)
  row_lines-split base whole start bytes at =
      elim (cases_lt start (length bytes)) [
        | inl inside ↦
            let size : length (take start bytes) ≡ row_size form * whole = omega (arith, length-take start bytes, at) in
            ap (λ all. row_lines form base all) (sym (take-append-drop start bytes))
            ∙ row_lines-append base (take start bytes) (drop start bytes) whole size
            ∙ ap (λ behind. row_lines form base (take start bytes) ++ row_lines form (base + behind) (drop start bytes)) (sym at)
        | inr outside ↦
            sym (
            ap (λ front. row_lines form base front ++ row_lines form (base + start) (drop start bytes)) (take_all start bytes outside)
            ∙ ap (λ rest. row_lines form base bytes ++ row_lines form (base + start) rest) (drop_all start bytes outside)
            ∙ ap (λ none. row_lines form base bytes ++ none) (row_lines-none form (base + start))
            ∙ append-nil (row_lines form base bytes))
      ]

  -- the same at the end of a block of 4,096 bytes
  pub row_lines-at_block : (base index : ℕ) (bytes : List ℕ) → row_lines form base bytes ≡ row_lines form base (take (4096 * index) bytes) ++ row_lines form (base + 4096 * index) (drop (4096 * index) bytes)
  row_lines-at_block base index bytes = row_lines-split base (rows_per_block form * index) (4096 * index) bytes (rows_per_block-is form index)

-- ---- lengths

pub length-flat_map-le : {X : Type 0} (part : X → List ℕ) (most : ℕ) (xs : List X) → All (λ x. length (part x) ≤ most) xs → length (flat_map part xs) ≤ length xs * most
length-flat_map-le part most [] small = omega arith
length-flat_map-le part most (x ∷ xs) small =
    let first = All-head (λ y. length (part y) ≤ most) x xs small in
    let rest = length-flat_map-le part most xs (All-tail (λ y. length (part y) ≤ most) x xs small) in
    omega (arith, length-append (part x) (flat_map part xs))

pub length-eight_digits : (number : ℕ) → length (eight_digits number) ≡ 8
length-eight_digits number = length-encode_with lower_digits (bytes_high_first 4 number)

pub length-row_line : (form : ImageForm) (address : ℕ) (row : List ℕ) → length (row_line form address row) ≡ line_overhead form + 2 * length row
length-row_line Report address row = simp length-append (omega (arith, length-eight_digits address, length-encode_with lower_digits row))
length-row_line SRecords address row = omega (arith, length-record_line (codes "S3") (bytes_high_first 4 address ++ row))

-- the rows of bytes that have 2 ^ 32 addresses
most_rows : (form : ImageForm) (bytes : List ℕ) → length bytes ≤ 2 ^ 32 → row_count form bytes * longest_line form ≤ 2 ^ 28 * 42
most_rows Report bytes small = omega arith
most_rows SRecords bytes small = omega arith

pub length-row_lines : (form : ImageForm) (base : ℕ) (bytes : List ℕ) → length bytes ≤ 2 ^ 32 → length (row_lines form base bytes) ≤ 2 ^ 28 * 42
length-row_lines form base bytes small =
    let line_of = λ (row : ℕ). row_line form (base + row_size form * row) (row_of form bytes row) in
    let each : (row : ℕ) → length (line_of row) ≤ longest_line form = λ row. omega (arith, length-row_line form (base + row_size form * row) (row_of form bytes row), length-take (row_size form) (drop (row_size form * row) bytes)) in
    let rows = range_with_len 0 (row_count form bytes) in
    let all : length (row_lines form base bytes) ≤ length rows * longest_line form = length-flat_map-le line_of (longest_line form) rows (λ k d _. each (slice_index_or rows k d)) in
    let count : length rows * longest_line form ≡ row_count form bytes * longest_line form = ap (λ n. n * longest_line form) (length-range_with_len 0 (row_count form bytes)) in
    omega (arith, all, count, most_rows form bytes small)
