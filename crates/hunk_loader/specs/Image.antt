-- Memory as a map from addresses to bytes, made from the list of hunks: the base of each, an
-- address, and its bytes.
use Rattle.std.specs.Prelude.{ℕ, ◌-◌, nat_le, if◌then◌else◌, List, [], ◌∷◌, map, Option, Some, None, Vec, slice_get}

-- the byte of one hunk at an address, if it has one there
abbrev pub byte_in : ℕ → List ℕ → ℕ → Option ℕ
byte_in base bytes address = if nat_le base address then slice_get bytes (address - base) else None

-- the byte, or the other one if there is none
abbrev pub or_else : Option ℕ → Option ℕ → Option ℕ
or_else (Some byte) other = Some byte
or_else None other = other

-- The byte at an address. If the hunks are placed, at most one of them has one there.
abbrev pub memory_map : List (ℕ × List ℕ) → ℕ → Option ℕ
memory_map [] address = None
memory_map (hunk ∷ hunks) address = or_else (byte_in hunk.0 hunk.1 address) (memory_map hunks address)

-- the bases of hunks, and their bytes as lists
abbrev pub hunks_of : {A : Type 0} → List (ℕ × Vec ℕ A) → List (ℕ × List ℕ)
hunks_of hunks = map (λ hunk. (hunk.0, hunk.1.items)) hunks
