use Rattle.std.proofs.Common.{◌≡◌, ◌∙◌, ◌≤◌, ◌<◌, ◌^◌, ◌+◌, ◌*◌, ap, arith, refl, subst}
use Rattle.std.proofs.lemmas.Grind.{common_steps}
use Rattle.std.specs.Char.{digit_value}
use Rattle.std.proofs.Math.Nat.{pow-le-pow_right}
use Rattle.hunk_addresses.proofs.PartDigitsLemmas.{AreDigits-push}
use Rattle.hunk_addresses.proofs.part_digits.PartDigits.with.Goals as goal

pub overflow_mul-result : goal.overflow_mul-result
overflow_mul-result c =
    let few : c.args.self.count ≤ 7 = omega arith in
    let some : 1 ≤ 16 = omega arith in
    let most : 16 ^ c.args.self.count ≤ 16 ^ 7 = pow-le-pow_right some few in
    omega (arith, c.args.self.below)

pub overflow_add-result-2 : goal.overflow_add-result-2
overflow_add-result-2 c =
    let few : c.args.self.count ≤ 7 = omega arith in
    let some : 1 ≤ 16 = omega arith in
    let most : 16 ^ c.args.self.count ≤ 16 ^ 7 = pow-le-pow_right some few in
    omega (arith, c.args.self.below, c.in_ok-digit.ensures.value.0, c.in_ok-digit.ensures.value.1)

pub returns : goal.returns
returns c = λ part are.
    let small : digit_value c.args.byte < 16 = subst (λ x. digit_value x < 16) c.from.ensures c.in_ok-digit.ensures.value.0 in
    let value : c.args.self.value * 16 + c.in_ok-digit.digit ≡ c.args.self.value * 16 + digit_value c.args.byte =
    ap (λ n. c.args.self.value * 16 + n) (c.in_ok-digit.ensures.value.1 ∙ ap digit_value c.from.ensures) in
    AreDigits-push c.args.self _ part c.args.byte small refl value are

-- `grind` at once: `search`, which Rattle tries before it, is slow here
pub returns-in_err-digit : goal.returns-in_err-digit
returns-in_err-digit c = grind (arith, common_steps)

pub returns-then-self-eq-MOST_DIGITS : goal.returns-then-self-eq-MOST_DIGITS
returns-then-self-eq-MOST_DIGITS c = grind (arith, common_steps)

pub invariant_of-result : goal.invariant_of-result
invariant_of-result c = grind (arith, common_steps)
