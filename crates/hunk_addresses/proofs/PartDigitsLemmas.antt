-- One digit more.
use Rattle.std.proofs.Common.{◌≡◌, ◌∙◌, ◌+◌, ◌*◌, ◌<◌, ◌++◌, ℕ, List, [], ◌∷◌, length-append, arith, ap, sym}
use Rattle.std.specs.Char.{digit_value}
use Rattle.std.proofs.lemmas.Int.Digits.{digits_value_push}
use Rattle.hunk_addresses.specs.PartDigits.{AreDigits}
use Rattle.hunk_addresses.specs.declared.part_digits.PartDigits.{PartDigits}
use Rattle.hunk_addresses.proofs.BasesFileLemmas.{is_digit, list_all-push}

pub AreDigits-push : (digits longer : PartDigits) (part : List ℕ) (byte : ℕ) → digit_value byte < 16 → longer.count ≡ digits.count + 1
    → longer.value ≡ digits.value * 16 + digit_value byte → AreDigits digits part → AreDigits longer (part ++ byte ∷ [])
AreDigits-push digits longer part byte small count value are = record {
  hexadecimal = list_all-push part byte are.hexadecimal (is_digit byte small);
  count_is = count ∙ (rw length-append (omega (arith, are.count_is)));
  value_is = value ∙ ap (λ n. n * 16 + digit_value byte) are.value_is ∙ sym (digits_value_push 16 part byte);
}
