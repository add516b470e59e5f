-- The bytes so far are 0.
use Rattle.std.proofs.Common.{◌==◌, None, not}
use Rattle.hunk_loadfile.specs.Patching.{byte_or_zero}
use Rattle.hunk_loadfile.proofs.LowestLemmas.{IsLowest}
use Rattle.hunk_loadfile.proofs.difference.first_nonzero.Given as goal

abbrev pub invariant-loop-offset : goal.invariant-loop-offset
invariant-loop-offset l = IsLowest (λ offset. not (byte_or_zero l.content offset == 0)) l.start l.offset None
