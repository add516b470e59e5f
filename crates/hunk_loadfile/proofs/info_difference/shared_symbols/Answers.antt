use Rattle.std.proofs.Common.{arith}
use Rattle.hunk_loadfile.specs.InfoDifference.{is_same_symbol}
use Rattle.hunk_loadfile.proofs.InfoDifferenceLemmas.{nothing_shared}
use Rattle.hunk_loadfile.proofs.info_difference.shared_symbols.Goals as goal

pub returns : goal.returns
returns g c =
    let rest = nothing_shared is_same_symbol c.args.first.now c.args.second.now c.loop-index.index (omega (arith, c.min-index-end.ensures, c.loop-index-test.false)) in
    omega (arith, rest, c.min.ensures, c.min-index-end.ensures, c.loop-index.invariant, c.loop-index.auto.index-end, c.loop-index-test.false)
