-- Names in longwords: the bytes before the first zero byte, or all of them if there is none.
use Rattle.std.specs.Prelude.{◌≡◌, ℕ, ◌+◌, ◌*◌, ◌/◌, ◌-◌, ◌^◌, ◌<◌, ◌==◌, List, ◌∷◌, ◌++◌, length, drop, map, max, replicate, ◌⊎◌}
use Rattle.std.specs.List.{All, flat_map, before_first, range_with_len}
use Rattle.byteorder.specs.Endian.{big_bytes, big_number}

-- the bytes of longwords, the most significant byte of each first
abbrev pub bytes_of : List ℕ → List ℕ
bytes_of ws = flat_map (λ w. big_bytes 4 w) ws

-- a byte other than zero
abbrev pub IsNameByte : ℕ → Type 0
IsNameByte b = (0 < b) × (b < 256)

-- The longwords hold the name n. It has no zero byte, and what follows the first zero byte is ignored.
pub record Names (n ws : List ℕ) : Type 0 where
  pub no_zero : All (λ b. 0 < b) n
  pub bytes : (bytes_of ws ≡ n) ⊎ ((rest : List ℕ) × (bytes_of ws ≡ n ++ 0 ∷ rest))

-- the name that longwords hold
abbrev pub name_of : List ℕ → List ℕ
name_of ws = before_first (λ b. b == 0) (bytes_of ws)

-- the bytes of a name whose longwords can be counted in 24 bits
abbrev pub most_name : ℕ
most_name = 2 ^ 26 - 4

-- the number of longwords that a name of this many bytes takes: the fewest, and at least one
abbrev pub longword_count : ℕ → ℕ
longword_count bytes = max 1 ((bytes + 3) / 4)

-- The longwords that hold the name n, the last one padded with zeros. A byte that big_number does
-- not find is a zero.
abbrev pub name_words : List ℕ → List ℕ
name_words n = map (λ k. big_number 4 (drop (4 * k) n)) (range_with_len 0 (longword_count (length n)))

-- The longwords are the bytes n, followed by the fewest zero bytes that make whole longwords. A
-- name takes at least one longword.
pub record Writes (n ws : List ℕ) : Type 0 where
  pub zeros : ℕ
  pub bytes : bytes_of ws ≡ n ++ replicate zeros 0
  pub fewest : ((0 < length n) × (zeros < 4)) ⊎ ((length n ≡ 0) × (zeros ≡ 4))
