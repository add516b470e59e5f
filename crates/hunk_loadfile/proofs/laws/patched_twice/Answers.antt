use Rattle.hunk_loadfile.proofs.PatchingTwiceLemmas.{patched_bytes-twice}
use Rattle.hunk_loadfile.proofs.laws.patched_twice.Goals as goal

pub returns : goal.returns
returns g c = patched_bytes-twice
