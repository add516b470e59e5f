-- The offsets so far are in their places.
use Rattle.std.proofs.Common.{◌≡◌, ℕ, map, take}
use Rattle.hunk_loadfile.proofs.relocation_writer.fill_offsets.Given as goal

abbrev pub invariant-loop-index : goal.invariant-loop-index
invariant-loop-index l = take l.index l.offsets ≡ map (λ (pair : ℕ × ℕ). pair.0) (take l.index l.pairs)
