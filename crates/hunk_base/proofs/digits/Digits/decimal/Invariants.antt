use Rattle.std.proofs.Common.{◌+◌, ◌≡◌, ◌≤◌, ◌<◌, ◌++◌, drop, length}
use Rattle.std.specs.Fmt.{decimal}
use Rattle.hunk_base.proofs.digits.Digits.decimal.Given as goal

-- what is left is written before the digits that are already in the array
abbrev pub invariant-loop-left : goal.invariant-loop-left
invariant-loop-left l = record {
  room : l.start < 20;
  places : length l.digits ≡ 20;
  fits : length (decimal l.left) ≤ l.start + 1;
  digits : decimal l.left ++ drop (l.start + 1) l.digits ≡ decimal l.fn.number;
}

abbrev pub decreases-loop-left : goal.decreases-loop-left
decreases-loop-left l = l.left
