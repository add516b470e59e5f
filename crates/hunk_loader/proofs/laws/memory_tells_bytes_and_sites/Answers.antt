use Rattle.hunk_loader.proofs.SameMemoryLemmas.{same_memory-tells_hunks}
use Rattle.hunk_loader.proofs.laws.memory_tells_bytes_and_sites.Goals as goal

pub returns : goal.returns
returns c = same_memory-tells_hunks
