use Rattle.std.proofs.Common.{◌∙◌, sym, min, max, length, arith}
use Rattle.hunk_loadfile.proofs.FirstDifferenceLemmas.{first_byte-in_first, first_byte-in_second, other_byte}
use Rattle.hunk_loadfile.proofs.LowestLemmas.{lowest-in_first}
use Rattle.hunk_loadfile.proofs.difference.first_byte.Goals as goal

pub returns-then-is_some : goal.returns-then-is_some
returns-then-is_some c =
    let first = c.args.first.now in
    let second = c.args.second.now in
    lowest-in_first (other_byte first second) (min (length first) (length second)) (max (length first) (length second)) c.first_unlike-unlike.result (omega arith) c.first_unlike-unlike.ensures (sym c.is_some.ensures ∙ c.if-is_some.true)

pub returns-then-first-second : goal.returns-then-first-second
returns-then-first-second c =
    first_byte-in_second c.args.first.now c.args.second.now c.first_unlike-unlike.result c.first_nonzero.result c.if-first-second.true c.first_unlike-unlike.ensures (sym c.is_some.ensures ∙ c.if-is_some.false) c.first_nonzero.ensures

pub returns-else-first-second : goal.returns-else-first-second
returns-else-first-second c =
    first_byte-in_first c.args.first.now c.args.second.now c.first_unlike-unlike.result c.first_nonzero-else-first-second.result c.if-first-second.false c.first_unlike-unlike.ensures (sym c.is_some.ensures ∙ c.if-is_some.false) c.first_nonzero-else-first-second.ensures
