-- The hunks so far are trimmed, and the remaining ones are as they were.
use Rattle.std.proofs.Common.{◌≡◌}
use Rattle.hunk_loadfile.specs.Trimming.{trimmed_hunk}
use Rattle.hunk_loadfile.proofs.MappedLemmas.{mapped_to}
use Rattle.hunk_loadfile.proofs.trimming.trim.Given as goal

abbrev pub invariant-loop-hunk : goal.invariant-loop-hunk
invariant-loop-hunk g l = l.hunks ≡ mapped_to trimmed_hunk l.hunk-index l.fn.hunks
