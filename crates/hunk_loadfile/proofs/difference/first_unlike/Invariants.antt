-- The bytes so far are the same.
use Rattle.std.proofs.Common.{None, not}
use Rattle.hunk_loadfile.specs.Difference.{has_same_byte}
use Rattle.hunk_loadfile.proofs.LowestLemmas.{IsLowest}
use Rattle.hunk_loadfile.proofs.difference.first_unlike.Given as goal

abbrev pub invariant-loop-offset : goal.invariant-loop-offset
invariant-loop-offset l = IsLowest (λ offset. not (has_same_byte l.first l.second offset)) 0 l.offset None
