-- The hunks so far are in normal form, and the remaining ones are as they were.
use Rattle.std.proofs.Common.{◌≡◌}
use Rattle.hunk_loadfile.specs.NormalForm.{normal_hunk}
use Rattle.hunk_loadfile.proofs.MappedLemmas.{mapped_to}
use Rattle.hunk_loadfile.proofs.normal_form.normalize.Given as goal

abbrev pub invariant-loop-hunk : goal.invariant-loop-hunk
invariant-loop-hunk g l = l.hunks ≡ mapped_to normal_hunk l.hunk-index l.fn.hunks
