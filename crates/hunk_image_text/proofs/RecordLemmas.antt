-- Upper-case hexadecimal digits, and how long records are.
use Rattle.std.proofs.Common.{◌≡◌, ◌<◌, ◌≤◌, ◌+◌, ◌*◌, ◌^◌, ◌/◌, ◌%◌, ℕ, zero, suc, List, [], ◌∷◌, ◌++◌, length, map, codes, slice_index, refl, ap₂, arith}
use Rattle.std.specs.Char.{to_ascii_uppercase}
use Rattle.std.specs.Fmt.{decimal}
use Rattle.std.proofs.lemmas.List.{length-append}
use Rattle.hex.specs.Hex.{encode_lower, encode_upper, encode_with, lower_digits, upper_digits}
use Rattle.hex.proofs.HexLemmas.{length-encode_with}
use Rattle.hunk_base.proofs.DigitsLemmas.{length-decimal}
use Rattle.hunk_image_text.specs.Record.{checksum, counted, left_out_record, record_line}

-- an index past the end gives 0 in both
uppercase-at : (table : List ℕ) (index : ℕ) → to_ascii_uppercase (slice_index table index) ≡ slice_index (map to_ascii_uppercase table) index
uppercase-at [] zero = refl
uppercase-at [] (suc index) = refl
uppercase-at (digit ∷ digits) zero = refl
uppercase-at (digit ∷ digits) (suc index) = uppercase-at digits index

pub uppercase-encode_lower : (bytes : List ℕ) → map to_ascii_uppercase (encode_lower bytes) ≡ encode_upper bytes
unfolding encode_with
uppercase-encode_lower [] = refl
uppercase-encode_lower (byte ∷ bytes) =
    let rest = uppercase-encode_lower bytes in
    ap₂ (λ digit digits. digit ∷ digits) (uppercase-at lower_digits (byte / 16))
    (ap₂ (λ digit digits. digit ∷ digits) (uppercase-at lower_digits (byte % 16)) rest)

-- ---- lengths

pub length-record_line : (kind bytes : List ℕ) → length (record_line kind bytes) ≡ length kind + 2 * length bytes + 5
length-record_line kind bytes =
    let all : List ℕ = counted bytes ++ checksum (counted bytes) ∷ [] in
    omega (arith, length-append (kind ++ encode_upper all) (codes "\n"), length-append kind (encode_upper all), length-encode_with upper_digits all, length-append (counted bytes) (checksum (counted bytes) ∷ []))

pub length-left_out_record-le : (count : ℕ) → count < 2 ^ 64 → length (left_out_record count) ≤ 128
length-left_out_record-le count fits =
    let words : List ℕ = codes "symbols left out: " in
    omega (arith, length-record_line (codes "S0") (0 ∷ 0 ∷ (words ++ decimal count)), length-append words (decimal count), length-decimal count fits)
