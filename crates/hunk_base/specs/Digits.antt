-- The digits of numbers, as lists of bytes.
use Rattle.std.specs.Prelude.{ℕ, List}
use Rattle.std.specs.Int.{bytes_high_first}
use Rattle.hex.specs.Hex.{encode_lower}

-- eight lower-case hexadecimal digits: two for each of four bytes, the highest first
abbrev pub eight_digits : ℕ → List ℕ
eight_digits number = encode_lower (bytes_high_first 4 number)
