-- Names that are escaped byte by byte.
use Rattle.std.proofs.Common.{◌≡◌, ◌<◌, ◌≤◌, ◌+◌, ◌*◌, ◌∙◌, ℕ, List, [], ◌∷◌, ◌++◌, length, take, get_or, Bool, true, false, if◌then◌else◌, codes, ap, append-nil, arith}
use Rattle.std.proofs.lemmas.Grind.{flat_map-append}
use Rattle.std.proofs.lemmas.List.{length-append, take_more}
use Rattle.hex.specs.Hex.{encode_lower, lower_digits}
use Rattle.hex.proofs.HexLemmas.{length-encode_with}
use Rattle.hunk_base.specs.QuotedName.{escaped, escaped_all, is_plain}

-- one more byte
pub escaped_all-more : (name : List ℕ) (index : ℕ) → index < length name → escaped_all (take (index + 1) name) ≡ escaped_all (take index name) ++ escaped (get_or name index 0)
escaped_all-more name index within =
    ap escaped_all (take_more name index 0 within)
    ∙ flat_map-append escaped (take index name) (get_or name index 0 ∷ [])
    ∙ ap (λ last. escaped_all (take index name) ++ last) (append-nil (escaped (get_or name index 0)))

-- some more bytes
pub escaped_all-append : (front rest : List ℕ) → escaped_all (front ++ rest) ≡ escaped_all front ++ escaped_all rest
escaped_all-append front rest = flat_map-append escaped front rest

-- up to four bytes for a byte of a name
pub length-escaped-le : (byte : ℕ) → length (escaped byte) ≤ 4
length-escaped-le byte = either (is_plain byte)
  where
    either : (plain : Bool) → length (if plain then byte ∷ [] else codes "\\x" ++ encode_lower (byte ∷ [])) ≤ 4
    either true = omega arith
    either false = omega (arith, length-encode_with lower_digits (byte ∷ []))

-- and for each byte of it
pub length-escaped_all-le : (name : List ℕ) → length (escaped_all name) ≤ 4 * length name
length-escaped_all-le [] = omega arith
length-escaped_all-le (byte ∷ bytes) = omega (arith, length-append (escaped byte) (escaped_all bytes), length-escaped-le byte, length-escaped_all-le bytes)
