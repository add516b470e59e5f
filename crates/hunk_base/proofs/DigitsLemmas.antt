-- The digits of a number, the last of which are already in an array.
use Rattle.std.proofs.Common.{◌≡◌, ℕ, ◌+◌, ◌/◌, ◌%◌, ◌^◌, ◌<◌, ◌≤◌, List, [], ◌∷◌, ◌++◌, length, drop, slice_set, sym, ap, ◌∙◌, append_assoc, arith}
use Rattle.std.specs.Fmt.{decimal}
use Rattle.std.proofs.lemmas.Fmt.{decimal_digit, decimal_step, decimal_nonempty, length-decimal-le}
use Rattle.std.proofs.lemmas.List.{drop-set, length-append}

pub length-decimal : (number : ℕ) → number < 2 ^ 64 → length (decimal number) ≤ 20
length-decimal number fits = length-decimal-le 20 number (omega arith) (omega arith) fits

-- a number of two digits or more has one digit more than without its last digit
pub length-decimal_step : (number : ℕ) → 10 ≤ number → number < 2 ^ 64 → (length (decimal number) ≡ length (decimal (number / 10)) + 1) × (0 < length (decimal (number / 10)))
length-decimal_step number large fits =
    let small : number / 10 < 2 ^ 64 = omega arith in
    (ap length (decimal_step number large fits) ∙ length-append (decimal (number / 10)) _, decimal_nonempty (number / 10) small)

-- one more digit is in the array
pub decimal-front : (number at : ℕ) (digits : List ℕ) → 10 ≤ number → number < 2 ^ 64 → at < length digits → decimal (number / 10) ++ drop at (slice_set digits at (48 + number % 10)) ≡ decimal number ++ drop (at + 1) digits
decimal-front number at digits large fits within =
    ap (λ rest. decimal (number / 10) ++ rest) (drop-set digits at (48 + number % 10) within)
    ∙ sym (append_assoc (decimal (number / 10)) ((48 + number % 10) ∷ []) (drop (at + 1) digits))
    ∙ ap (λ front. front ++ drop (at + 1) digits) (sym (decimal_step number large fits))

-- the first digit is in the array
pub decimal-first : (number at : ℕ) (digits : List ℕ) → number < 10 → at < length digits → drop at (slice_set digits at (48 + number)) ≡ decimal number ++ drop (at + 1) digits
decimal-first number at digits small within =
    drop-set digits at (48 + number) within ∙ ap (λ front. front ++ drop (at + 1) digits) (sym (decimal_digit number small))
