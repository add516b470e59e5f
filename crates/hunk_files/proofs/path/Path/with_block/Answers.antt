-- There are fewer blocks than a number can count.
use Rattle.std.proofs.Common.{◌≡◌, ◌+◌, arith}
use Rattle.hunk_files.proofs.PathLemmas.{IsPathOf-end, IsPathOf-unit, hunks-le, units-le}
use Rattle.hunk_files.proofs.path.Path.with_block.Goals as goal

pub returns-in-Unit : goal.returns-in-Unit
returns-in-Unit c = λ types few is.
    let more : c.saturating_add.result ≡ c.args.self.units + 1 = let le = units-le types in omega (arith, c.saturating_add.ensures, le, few, is.units) in
    rw c.in-Unit.is (IsPathOf-unit c.args.self types c.saturating_add.result is more)

pub returns-in-End : goal.returns-in-End
returns-in-End c = λ types few is.
    let more : c.saturating_add-in-End.result ≡ c.args.self.hunks + 1 = let le = hunks-le types in omega (arith, c.saturating_add-in-End.ensures, le, few, is.hunks) in
    rw c.in-End.is (IsPathOf-end c.args.self types c.saturating_add-in-End.result is more)
