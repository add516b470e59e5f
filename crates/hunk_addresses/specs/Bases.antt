-- What a list of addresses means: numbers in hexadecimal digits, separated by commas.
use Rattle.std.specs.Prelude.{◌≡◌, ℕ, Bool, ◌&&◌, ◌==◌, nat_le, if◌then◌else◌, List, length, map, position, Option, Some, None, is_none}
use Rattle.std.specs.Char.{is_ascii_hexdigit}
use Rattle.std.specs.List.{list_all, slice_split}
use Rattle.std.specs.Str.Parse.{digits_value}
use Rattle.hunk_addresses.specs.declared.bases.BasesFault.{BasesFault}
use Rattle.hunk_addresses.specs.declared.bases.BasesFault.TheVariants.{BadNumber, OutOfMemory}

-- the parts of a text between its commas
abbrev pub parts : List ℕ → List (List ℕ)
parts text = slice_split (λ byte. byte == 44) text

-- 1 to 8 hexadecimal digits
abbrev pub is_number : List ℕ → Bool
is_number part = nat_le 1 (length part) && nat_le (length part) 8 && list_all is_ascii_hexdigit part

-- the number that such a part stands for
abbrev pub number_of : List ℕ → Option ℕ
number_of part = if is_number part then Some (digits_value 16 part) else None

-- the number of each part of a text, in order
abbrev pub numbers : List ℕ → List (Option ℕ)
numbers text = map number_of (parts text)

-- why parts with these numbers are rejected: a bad number is the first part that has none; out of
-- memory says nothing about them
abbrev pub IsNumbersFault : List (Option ℕ) → BasesFault → Type 0
IsNumbersFault all (BadNumber index) = position is_none all ≡ Some index
IsNumbersFault all OutOfMemory = Unit {0}

-- why a text is rejected
abbrev pub IsBasesFault : List ℕ → BasesFault → Type 0
IsBasesFault text fault = IsNumbersFault (numbers text) fault
