-- The lines that tell what hunks need, beside their addresses.
use Rattle.std.specs.Prelude.{ℕ, ◌*◌, List, ◌++◌, length, Option, Some, None, codes, slice_get}
use Rattle.std.specs.Fmt.{decimal}
use Rattle.std.specs.List.{enumerate_from, flat_map}
use Rattle.hunk_base.specs.Digits.{eight_digits}
use Rattle.hunk_base.specs.Text.{line}

-- the numbers of hunks and of addresses
abbrev pub numbers_line : (hunks bases : ℕ) → List ℕ
numbers_line hunks bases = line (codes "  hunks: " ++ decimal hunks ++ codes ", addresses: " ++ decimal bases)

-- the address of a hunk, which may have none
abbrev pub told_address : Option ℕ → List ℕ
told_address None = codes ", no address"
told_address (Some base) = codes " at " ++ eight_digits base

abbrev pub address_text : (bases : List ℕ) → ℕ → List ℕ
address_text bases hunk = told_address (slice_get bases hunk)

-- the number of a hunk, its size, which is given in longwords, in bytes, and its address
abbrev pub hunk_line : (bases : List ℕ) → ℕ × ℕ → List ℕ
hunk_line bases hunk = line (codes "  hunk " ++ decimal hunk.0 ++ codes ": " ++ decimal (4 * hunk.1) ++ codes " bytes" ++ address_text bases hunk.0)

-- all lines, for hunks of these sizes in longwords and these addresses
abbrev pub places_text : (sizes bases : List ℕ) → List ℕ
places_text sizes bases = numbers_line (length sizes) (length bases) ++ flat_map (hunk_line bases) (enumerate_from 0 sizes)
