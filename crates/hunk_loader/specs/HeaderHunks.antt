-- What the header of a load file tells of its hunks: five longwords, of which the third is their
-- number, and then one for each, with its size and its memory (The AmigaDOS Manual, 3rd edition,
-- "Amiga binary file structure").
use Rattle.std.specs.Prelude.{◌≡◌, ℕ, ◌+◌, ◌*◌, ◌<◌, List, ◌∷◌, drop, length, map, Option, Some, None}
use Rattle.hunk_base.specs.Longwords.{longwords}
use Rattle.hunk_words.specs.Files.{IsValidPrefix}
use Rattle.hunk_words.specs.Kinds.{bits, low, memory_of}
use Rattle.hunk_words.specs.declared.event.FileKind.TheVariants.{Load}
use Rattle.hunk_loadfile.specs.LoadHunk.{FileHunk}
use Rattle.hunk_loader.specs.declared.header_hunks.HeaderHunk.{HeaderHunk}

-- the hunk of a longword
abbrev pub header_hunk : ℕ → HeaderHunk
header_hunk word = record { size = low word; memory = memory_of (bits word) }

-- what a header tells of a hunk of the file
abbrev pub told_of : FileHunk → HeaderHunk
told_of hunk = record { size = hunk.size; memory = hunk.memory }

-- the sizes of hunks, in longwords
abbrev pub told_sizes : List HeaderHunk → List ℕ
told_sizes hunks = map (λ hunk. hunk.size) hunks

-- The number of bytes of the header that begins with these longwords, as far as they tell it: up to
-- the number of hunks if that has not come yet.
abbrev pub header_length : List ℕ → ℕ
header_length (start ∷ resident ∷ count ∷ words) = 4 * (5 + count)
header_length _ = 12

-- The bytes are a whole header and nothing more, which tells of these hunks, and a load file may
-- begin with them.
pub record IsHeader (bytes : List ℕ) (hunks : List HeaderHunk) : Type 0 where
  pub whole : length bytes ≡ header_length (longwords bytes)
  pub told : hunks ≡ map header_hunk (drop 5 (longwords bytes))
  pub begins : IsValidPrefix Load (longwords bytes)

-- The bytes are the beginning of a header that is not whole, or a whole header of these hunks.
abbrev pub HeaderRead : List ℕ → Option (List HeaderHunk) → Type 0
HeaderRead bytes None = length bytes < header_length (longwords bytes)
HeaderRead bytes (Some hunks) = IsHeader bytes hunks
