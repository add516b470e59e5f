-- What the bytes of a file of addresses mean, and why the addresses of a file are not known.
use Rattle.std.specs.Prelude.{◌≡◌, ◌<◌, ◌≤◌, ◌++◌, ℕ, Bool, true, false, ◌||◌, ◌==◌, IsTrue, List, [], ◌∷◌, length, map, Option, Some}
use Rattle.std.specs.List.{filter, slice_split}
use Rattle.hunk_base.specs.Streams.{HasRead}
use Rattle.hunk_loadfile.specs.Rules.{most_hunks}
use Rattle.hunk_addresses.specs.Bases.{IsNumbersFault, number_of}
use Rattle.hunk_addresses.specs.declared.bases_file.BasesFileFault.{BasesFileFault}
use Rattle.hunk_addresses.specs.declared.bases_file.BasesFileFault.TheVariants.{Refused, TooMany, TooLong, Device}
use Rattle.hunk_addresses.specs.declared.part_digits.PartDigits.{PartDigits}
use Rattle.hunk_addresses.specs.PartDigits.{AreDigits}

-- a comma (44), a space (32), a tab (9), a carriage return (13) or a line feed (10)
abbrev pub is_separator : ℕ → Bool
is_separator byte = byte == 44 || (byte == 32 || (byte == 9 || (byte == 13 || byte == 10)))

abbrev pub has_bytes : List ℕ → Bool
has_bytes [] = false
has_bytes (byte ∷ rest) = true

-- the parts of a file: the longest runs of bytes that are no separators
abbrev pub file_parts : List ℕ → List (List ℕ)
file_parts bytes = filter has_bytes (slice_split is_separator bytes)

-- the number of each part of a file, in order
abbrev pub file_numbers : List ℕ → List (Option ℕ)
file_numbers bytes = map number_of (file_parts bytes)

-- a file has at most 16 MiB, and as many addresses as a load file has hunks
abbrev pub most_bytes : ℕ
most_bytes = 16777216

-- these bytes are a file of these addresses: they are the numbers of its parts, and neither they nor the bytes are too many
pub record IsFileOf (bases bytes : List ℕ) : Type 0 where
  pub numbers : file_numbers bytes ≡ map Some bases
  pub few : length bases ≤ most_hunks
  pub short : length bytes ≤ most_bytes

-- whatever bytes follow these, this is why the file is rejected: a part is no number, there are too many
-- addresses or bytes, or out of memory
abbrev pub IsRejected : List ℕ → BasesFileFault → Type 0
IsRejected bytes (Refused fault) = (rest : List ℕ) → IsNumbersFault (file_numbers (bytes ++ rest)) fault
IsRejected bytes TooMany = (rest : List ℕ) → most_hunks < length (file_numbers (bytes ++ rest))
IsRejected bytes TooLong = most_bytes < length bytes
IsRejected bytes Device = ⊥

-- why the addresses that a reader has are not known: what was read of them is rejected, or a read failed
abbrev pub IsBasesFileFault : (old new : Option (List ℕ)) (failed : Bool) → BasesFileFault → Type 0
IsBasesFileFault old new failed Device = IsTrue failed
IsBasesFileFault old new failed fault = HasRead old new (λ bytes. IsRejected bytes fault)

-- these numbers, and the digits of a last part that may go on, are those of these bytes
pub record StandsFor (bases : List ℕ) (digits : PartDigits) (bytes : List ℕ) : Type 0 where
  pub part : List ℕ
  pub are : AreDigits digits part
  pub numbers : (rest : List ℕ) → file_numbers (bytes ++ rest) ≡ map Some bases ++ file_numbers (part ++ rest)
