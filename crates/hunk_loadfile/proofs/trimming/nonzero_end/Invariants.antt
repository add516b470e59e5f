-- Behind the end there are only zeros.
use Rattle.std.proofs.Common.{◌≡◌, ◌==◌, ◌≤◌, not, length}
use Rattle.hunk_loadfile.specs.Patching.{byte_or_zero}
use Rattle.hunk_loadfile.specs.Trimming.{kept_end}
use Rattle.hunk_loadfile.proofs.trimming.nonzero_end.Given as goal

abbrev pub invariant-loop-end : goal.invariant-loop-end
invariant-loop-end l = record {
  inside : l.end ≤ length l.content;
  ends : kept_end (λ i. not (byte_or_zero l.content i == 0)) l.end ≡ kept_end (λ i. not (byte_or_zero l.content i == 0)) (length l.content);
}

abbrev pub decreases-loop-end : goal.decreases-loop-end
decreases-loop-end l = l.end
