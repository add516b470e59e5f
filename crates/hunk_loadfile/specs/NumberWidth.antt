-- The two widths of the numbers of a relocation block.
use Rattle.std.specs.Prelude.{ℕ, List}
use Rattle.std.specs.List.{flat_map}
use Rattle.byteorder.specs.Endian.{big_bytes}
use Rattle.hunk_loadfile.specs.declared.number_width.NumberWidth.{NumberWidth}
use Rattle.hunk_loadfile.specs.declared.number_width.NumberWidth.TheVariants.{Word, Longword}

abbrev pub width_bytes : NumberWidth → ℕ
width_bytes Word = 2
width_bytes Longword = 4

-- the type of the block that has such numbers
abbrev pub block_type : NumberWidth → ℕ
block_type Word = 1020
block_type Longword = 1004

-- the bytes of numbers, the most significant byte of each first
abbrev pub bytes_in : NumberWidth → List ℕ → List ℕ
bytes_in width numbers = flat_map (λ n. big_bytes (width_bytes width) n) numbers
