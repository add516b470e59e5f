-- The hunks so far are stripped, and the remaining ones are as they were.
use Rattle.std.proofs.Common.{◌≡◌}
use Rattle.hunk_loadfile.specs.Stripping.{stripped_hunk}
use Rattle.hunk_loadfile.proofs.MappedLemmas.{mapped_to}
use Rattle.hunk_loadfile.proofs.stripping.strip.Given as goal

abbrev pub invariant-loop-hunk : goal.invariant-loop-hunk
invariant-loop-hunk g l = l.hunks ≡ mapped_to stripped_hunk l.hunk-index l.fn.hunks
