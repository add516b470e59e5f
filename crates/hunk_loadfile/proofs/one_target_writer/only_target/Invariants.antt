-- If the remaining sites have the target and offsets of 32 bits, all sites have them.
use Rattle.std.proofs.Common.{ℕ}
use Rattle.std.specs.List.{All}
use Rattle.hunk_loadfile.proofs.OneTargetWriterLemmas.{IsTo}
use Rattle.hunk_loadfile.proofs.one_target_writer.only_target.Given as goal

abbrev pub invariant-loop-target : goal.invariant-loop-target
invariant-loop-target g l = All (IsTo l.only) l.target-iterator → All (IsTo l.only) l.sites.entries
