-- The digits of an address, as they come.
use Rattle.std.specs.Prelude.{◌≡◌, ◌==◌, ℕ, List, [], ◌∷◌, if◌then◌else◌, length, true}
use Rattle.std.specs.Char.{is_ascii_hexdigit}
use Rattle.std.specs.List.{list_all}
use Rattle.std.specs.Str.Parse.{digits_value}
use Rattle.hunk_addresses.specs.declared.part_digits.PartDigits.{PartDigits}

-- the digits of this part, or of its beginning
pub record AreDigits (digits : PartDigits) (part : List ℕ) : Type 0 where
  pub hexadecimal : list_all is_ascii_hexdigit part ≡ true
  pub count_is : digits.count ≡ length part
  pub value_is : digits.value ≡ digits_value 16 part

-- the number of a part with these digits, if there are any
abbrev pub ended_number : PartDigits → List ℕ
ended_number digits = if digits.count == 0 then [] else digits.value ∷ []
