use Rattle.std.proofs.Common.{max, length, ◌∙◌, sym, arith}
use Rattle.hunk_loadfile.proofs.FirstDifferenceLemmas.{other_byte}
use Rattle.hunk_loadfile.proofs.LowestLemmas.{lowest-low}
use Rattle.hunk_loadfile.proofs.difference.unlike_byte.Goals as goal

pub overflow_cast-result : goal.overflow_cast-result
overflow_cast-result c =
    let first = c.args.first.now in
    let second = c.args.second.now in
    omega (arith, c.requires.first, c.requires.second, lowest-low (other_byte first second) (max (length first) (length second)) c.in-Some.offset (sym c.first_byte.ensures ∙ c.in-Some.is))
