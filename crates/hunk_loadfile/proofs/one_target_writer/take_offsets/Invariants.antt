-- The offsets so far are those of the sites so far, and the other sites are left.
use Rattle.std.proofs.Common.{◌≡◌, ℕ, drop, length, map, take}
use Rattle.hunk_loadfile.proofs.one_target_writer.take_offsets.Given as goal

abbrev pub invariant-loop-index : goal.invariant-loop-index
invariant-loop-index g l = record {
  room : length l.offsets ≡ length l.fn.offsets;
  taken : take l.index l.offsets ≡ map (λ (site : ℕ × ℕ). site.0) (take l.index l.fn.walk);
  rest : l.walk ≡ drop l.index l.fn.walk;
}
