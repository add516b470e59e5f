-- Numbers added to the longwords inside bytes. A site is the four bytes from an offset, and has a
-- target; the number that is added there is the target's addend (The AmigaDOS Manual, 3rd edition,
-- "Amiga binary file structure", relocation blocks).
use Rattle.std.specs.Prelude.{ℕ, ◌+◌, ◌-◌, ◌^◌, ◌%◌, nat_le, nat_lt, ◌&&◌, Bool, if◌then◌else◌, List, [], ◌∷◌, map, Option, Some, None, slice_index}
use Rattle.std.specs.List.{range_with_len}
use Rattle.byteorder.specs.Endian.{big_bytes, big_from}

-- the site at this offset includes byte i
abbrev pub holds : ℕ → ℕ → Bool
holds offset i = nat_le offset i && nat_lt i (offset + 4)

-- the site whose four bytes include byte i, if any; if the sites are disjoint there is at most one
abbrev pub site_over : {T : Type 0} → List (ℕ × T) → ℕ → Option (ℕ × T)
site_over [] i = None
site_over (site ∷ sites) i = if holds site.0 i then Some site else site_over sites i

-- byte i of the content, or 0 after its end
abbrev pub byte_or_zero : List ℕ → ℕ → ℕ
byte_or_zero content i = slice_index content i

-- the longword at a site with the addend of its target, modulo 2 ^ 32
abbrev pub sum_at : {T : Type 0} → List ℕ → (T → ℕ) → ℕ × T → ℕ
sum_at content addend site = (big_from site.0 4 content + addend site.1) % 2 ^ 32

-- byte i in no site, or in this one
abbrev pub patched_in : {T : Type 0} → List ℕ → (T → ℕ) → Option (ℕ × T) → ℕ → ℕ
patched_in content addend None i = byte_or_zero content i
patched_in content addend (Some site) i = slice_index (big_bytes 4 (sum_at content addend site)) (i - site.0)

-- byte i after the addends of the sites have been added: the content's byte if no site includes it,
-- otherwise its byte of the sum
abbrev pub patched : {T : Type 0} → List ℕ → List (ℕ × T) → (T → ℕ) → ℕ → ℕ
patched content sites addend i = patched_in content addend (site_over sites i) i

-- the first `count` of these bytes
abbrev pub patched_bytes : {T : Type 0} → ℕ → List ℕ → List (ℕ × T) → (T → ℕ) → List ℕ
patched_bytes count content sites addend = map (patched content sites addend) (range_with_len 0 count)
