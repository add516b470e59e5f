-- Longwords, as bytes and back.
use Rattle.std.proofs.Common.{◌≡◌, ℕ, zero, suc, ◌^◌, ◌<◌, List, [], ◌∷◌, ◌++◌, refl, ap, ◌∙◌, slice_index, get_or, Fits, w8, arith}
use Rattle.std.specs.List.{All, AllByRecursion}
use Rattle.std.proofs.Math.Facts.{Fits-lt-pow}
use Rattle.std.proofs.lemmas.List.Elements.{recursion_from_All, All-from_get_or}
use Rattle.byteorder.specs.Numbers.{big_from-lt, big_number-reads_back}
use Rattle.hunk_base.specs.Longwords.{AllLong, longwords, IsWhole}
use Rattle.hunk_base.specs.Name.{bytes_of}
use Rattle.hunk_base.proofs.NameLemmas.{big_bytes-of_four}

go : (ws : List ℕ) → AllByRecursion (λ w. w < 2 ^ 32) ws → longwords (bytes_of ws) ≡ ws
go [] h = refl
go (w ∷ ws) h =
    ap (λ (n : ℕ). n ∷ longwords (bytes_of ws)) (big_number-reads_back 4 w [] h.0) ∙ ap (λ (t : List ℕ). w ∷ t) (go ws h.1)

-- longwords are read back from their bytes
pub longwords-bytes_of : (ws : List ℕ) → All (λ w. w < 2 ^ 32) ws → longwords (bytes_of ws) ≡ ws
longwords-bytes_of ws h = go ws (recursion_from_All (λ w. w < 2 ^ 32) ws h)

-- and nothing is left after the last one
pub bytes_of-IsWhole : (ws : List ℕ) → IsWhole (bytes_of ws)
bytes_of-IsWhole [] = refl
bytes_of-IsWhole (w ∷ ws) = bytes_of-IsWhole ws

whole-bytes : (bytes : List ℕ) → AllByRecursion (λ b. b < 256) bytes → IsWhole bytes → bytes_of (longwords bytes) ≡ bytes
whole-bytes [] h whole = refl
whole-bytes (a ∷ []) h whole = cc
whole-bytes (a ∷ b ∷ []) h whole = cc
whole-bytes (a ∷ b ∷ c ∷ []) h whole = cc
whole-bytes (a ∷ b ∷ c ∷ d ∷ bytes) h whole =
    ap (λ (t : List ℕ). t ++ bytes_of (longwords bytes)) (big_bytes-of_four a b c d [] h.0 h.1.0 h.1.1.0 h.1.1.1.0)
    ∙ ap (λ (t : List ℕ). a ∷ b ∷ c ∷ d ∷ t) (whole-bytes bytes h.1.1.1.1 whole)

-- whole bytes are those of their longwords
pub bytes_of-longwords : (bytes : List ℕ) → All (λ b. b < 256) bytes → IsWhole bytes → bytes_of (longwords bytes) ≡ bytes
bytes_of-longwords bytes typed whole = whole-bytes bytes (recursion_from_All (λ b. b < 256) bytes typed) whole

-- the bytes of a slice
pub are-bytes : (bytes : List ℕ) → ((i : ℕ) → Fits w8 (get_or bytes i 0)) → All (λ b. b < 256) bytes
are-bytes bytes typed = All-from_get_or (λ b. b < 256) bytes 0 (λ i within. Fits-lt-pow (typed i))

-- four bytes, one by one
four-bytes : (a b c d : ℕ) → a < 256 → b < 256 → c < 256 → d < 256 → (k : ℕ) → slice_index (a ∷ b ∷ c ∷ d ∷ []) k < 256
four-bytes a b c d p q r s zero = p
four-bytes a b c d p q r s (suc zero) = q
four-bytes a b c d p q r s (suc (suc zero)) = r
four-bytes a b c d p q r s (suc (suc (suc zero))) = s
four-bytes a b c d p q r s (suc (suc (suc (suc k)))) = omega arith

long-each : (bytes : List ℕ) → AllByRecursion (λ b. b < 256) bytes → AllLong (longwords bytes)
long-each [] h = tt
long-each (a ∷ []) h = tt
long-each (a ∷ b ∷ []) h = tt
long-each (a ∷ b ∷ c ∷ []) h = tt
long-each (a ∷ b ∷ c ∷ d ∷ bytes) (p, (q, (r, (s, h)))) = (big_from-lt 0 4 (a ∷ b ∷ c ∷ d ∷ []) (four-bytes a b c d p q r s), long-each bytes h)

-- the longwords of bytes are longwords
pub longwords-long : (bytes : List ℕ) → All (λ b. b < 256) bytes → AllLong (longwords bytes)
longwords-long bytes typed = long-each bytes (recursion_from_All (λ b. b < 256) bytes typed)
