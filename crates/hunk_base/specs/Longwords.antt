-- The longwords of bytes, the most significant byte first. A file is longwords (The AmigaDOS
-- Manual, 3rd edition, "Amiga binary file structure").
use Rattle.std.specs.Prelude.{◌≡◌, ◌<◌, ◌^◌, ℕ, List, [], ◌∷◌}
use Rattle.std.specs.List.{AllByRecursion}
use Rattle.byteorder.specs.Endian.{big_number}

abbrev pub longwords : List ℕ → List ℕ
longwords (a ∷ b ∷ c ∷ d ∷ bytes) = big_number 4 (a ∷ b ∷ c ∷ d ∷ []) ∷ longwords bytes
longwords _ = []

-- the bytes after the last whole longword
abbrev pub unfinished : List ℕ → List ℕ
unfinished (a ∷ b ∷ c ∷ d ∷ bytes) = unfinished bytes
unfinished bytes = bytes

-- The bytes are longwords and nothing more.
abbrev pub IsWhole : List ℕ → Type 0
IsWhole bytes = unfinished bytes ≡ []

-- numbers that are longwords
abbrev pub AllLong : List ℕ → Type 0
AllLong ws = AllByRecursion (λ w. w < 2 ^ 32) ws
