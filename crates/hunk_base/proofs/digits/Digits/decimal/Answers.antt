use Rattle.std.proofs.Common.{◌≡◌, ◌+◌, ◌-◌, ◌/◌, ◌%◌, ◌^◌, ◌<◌, ◌++◌, drop, slice_set, refl, ap, sym, ◌∙◌, append-nil, arith}
use Rattle.std.proofs.lemmas.List.{length-set}
use Rattle.std.specs.Fmt.{decimal}
use Rattle.hunk_base.proofs.DigitsLemmas.{decimal-first, decimal-front, length-decimal, length-decimal_step}
use Rattle.hunk_base.proofs.digits.Digits.decimal.Goals as goal

pub loop-left-init : goal.loop-left-init
loop-left-init c = record {
  room = omega arith;
  places = refl;
  fits = length-decimal c.args.number c.ranges.number.fits;
  digits = append-nil (decimal c.args.number);
}

pub overflow_sub-start-in-loop-left : goal.overflow_sub-start-in-loop-left
overflow_sub-start-in-loop-left c =
    let step = length-decimal_step c.loop-left.left c.loop-left-test.true (omega arith) in
    omega arith

pub loop-left-preserved : goal.loop-left-preserved
loop-left-preserved c =
    let fits : c.loop-left.left < 2 ^ 64 = omega arith in
    let step = length-decimal_step c.loop-left.left c.loop-left-test.true fits in
    let back : c.loop-left.start ≡ c.loop-left.start - 1 + 1 = omega arith in
    let front = decimal-front c.loop-left.left c.loop-left.start c.loop-left.digits c.loop-left-test.true fits (omega arith) in
    record {
      room = omega arith;
      places = length-set c.loop-left.digits _ _ ∙ c.loop-left.invariant.places;
      fits = omega arith;
      digits =
          ap (λ at. decimal (c.loop-left.left / 10) ++ drop at (slice_set c.loop-left.digits c.loop-left.start (48 + c.loop-left.left % 10))) (sym back)
          ∙ front
          ∙ c.loop-left.invariant.digits;
    }

pub returns-clause-value : goal.returns-clause-value
returns-clause-value c =
    decimal-first c.loop-left.left c.loop-left.start c.loop-left.digits (omega arith) (omega arith) ∙ c.loop-left.invariant.digits
