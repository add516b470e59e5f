-- What a debugger shows of memory.
use Rattle.std.specs.Int.{from_be_bytes, w32}
use Rattle.std.specs.Prelude.{ℕ, ◌+◌, [], ◌∷◌, Option, Some, None}

-- the longword of four bytes, if all four are there
abbrev pub longword : Option ℕ → Option ℕ → Option ℕ → Option ℕ → Option ℕ
longword (Some a) (Some b) (Some c) (Some d) = Some (from_be_bytes w32 (a ∷ b ∷ c ∷ d ∷ []))
longword _ _ _ _ = None

-- the longword at an address of memory, its most significant byte first
abbrev pub longword_at : (ℕ → Option ℕ) → ℕ → Option ℕ
longword_at memory address = longword (memory address) (memory (address + 1)) (memory (address + 2)) (memory (address + 3))
