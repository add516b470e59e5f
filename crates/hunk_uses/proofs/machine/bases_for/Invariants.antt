-- The bases that are chosen, followed by those of the remaining hunks, are all bases.
use Rattle.std.proofs.Common.{◌≡◌, ◌≤◌, ◌++◌, drop, length, vec_capacity, vec_len}
use Rattle.hunk_loader.specs.HeaderHunks.{told_sizes}
use Rattle.hunk_uses.specs.Emulator.{bases_from}
use Rattle.hunk_uses.proofs.machine.bases_for.Given as goal

abbrev pub invariant-loop-hunk : goal.invariant-loop-hunk
invariant-loop-hunk l = record {
  room : length l.hunks ≤ vec_capacity l.bases;
  len : vec_len l.bases ≡ l.hunk-index;
  value : l.bases.items ++ bases_from l.free (told_sizes (drop l.hunk-index l.hunks)) ≡ bases_from l.first (told_sizes l.hunks);
}
