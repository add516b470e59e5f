-- The sites so far have the target.
use Rattle.std.proofs.Common.{◌≡◌, ◌<◌, ℕ, get_or}
use Rattle.hunk_loadfile.proofs.relocation_writer.group_length.Given as goal

abbrev pub invariant-loop-index : goal.invariant-loop-index
invariant-loop-index l = (k : ℕ) (d : ℕ × ℕ) → k < l.index → (get_or l.pairs k d).1 ≡ l.target
