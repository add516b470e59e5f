-- Names between double quotes.
use Rattle.std.specs.Prelude.{ℕ, ◌==◌, ◌&&◌, nat_le, not, Bool, if◌then◌else◌, List, [], ◌∷◌, ◌++◌, codes}
use Rattle.std.specs.List.{flat_map}
use Rattle.hex.specs.Hex.{encode_lower}

-- a printable byte of ASCII, other than the double quote (34) and the backslash (92)
abbrev pub is_plain : ℕ → Bool
is_plain byte = nat_le 32 byte && nat_le byte 126 && not (byte == 34) && not (byte == 92)

-- a byte as itself, or as a backslash, an x and two digits
abbrev pub escaped : ℕ → List ℕ
escaped byte = if is_plain byte then byte ∷ [] else codes "\\x" ++ encode_lower (byte ∷ [])

-- all bytes of a name, one after another
abbrev pub escaped_all : List ℕ → List ℕ
escaped_all name = flat_map escaped name

-- a name between double quotes
abbrev pub quoted : List ℕ → List ℕ
quoted name = codes "\"" ++ escaped_all name ++ codes "\""
