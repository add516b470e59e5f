-- The bytes of numbers of either width.
use Rattle.std.proofs.Common.{◌≡◌, ◌≤◌, ◌*◌, ◌%◌, ◌/◌, ◌^◌, ◌∙◌, ℕ, List, [], ◌∷◌, ◌++◌, length, map, refl, ap, arith}
use Rattle.std.proofs.lemmas.Grind.{flat_map-append}
use Rattle.std.specs.List.{flat_map}
use Rattle.byteorder.specs.Endian.{big_bytes}
use Rattle.hunk_loadfile.specs.declared.number_width.NumberWidth.{NumberWidth}
use Rattle.hunk_loadfile.specs.declared.number_width.NumberWidth.TheVariants.{Word, Longword}
use Rattle.hunk_loadfile.specs.NumberWidth.{bytes_in, width_bytes}

pub width_bytes-le : (width : NumberWidth) (n : ℕ) → width_bytes width * n ≤ 4 * n
width_bytes-le Word n = omega arith
width_bytes-le Longword n = omega arith

pub bytes_in-append : (width : NumberWidth) (ns more : List ℕ) → bytes_in width (ns ++ more) ≡ bytes_in width ns ++ bytes_in width more
bytes_in-append width ns more = flat_map-append (λ n. big_bytes (width_bytes width) n) ns more

pub length-bytes_in : (width : NumberWidth) (ns : List ℕ) → length (bytes_in width ns) ≡ width_bytes width * length ns
length-bytes_in Word [] = refl
length-bytes_in Word (n ∷ ns) = omega (arith, length-bytes_in Word ns)
length-bytes_in Longword [] = refl
length-bytes_in Longword (n ∷ ns) = omega (arith, length-bytes_in Longword ns)

pub length-bytes_in-le : (width : NumberWidth) (ns : List ℕ) → length (bytes_in width ns) ≤ 4 * length ns
length-bytes_in-le width ns = omega (arith, length-bytes_in width ns, width_bytes-le width (length ns))

-- the two bytes of a number do not depend on its higher bits
pub words-low : (ns : List ℕ) → flat_map (λ n. big_bytes 2 n) (map (λ n. n % 2 ^ 16) ns) ≡ bytes_in Word ns
words-low [] = refl
words-low (n ∷ ns) =
    let high : n % 2 ^ 16 / 256 % 256 ≡ n / 256 % 256 = omega arith in
    let low : n % 2 ^ 16 % 256 ≡ n % 256 = omega arith in
    ap (λ (a : ℕ). a ∷ n % 2 ^ 16 % 256 ∷ flat_map (λ k. big_bytes 2 k) (map (λ k. k % 2 ^ 16) ns)) high
    ∙ ap (λ (b : ℕ). n / 256 % 256 ∷ b ∷ flat_map (λ k. big_bytes 2 k) (map (λ k. k % 2 ^ 16) ns)) low
    ∙ ap (λ (bytes : List ℕ). big_bytes 2 n ++ bytes) (words-low ns)
