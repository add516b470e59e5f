use Rattle.hunk_tool.proofs.HeadlineLemmas.{loaded-is-direct, memory-is-direct}
use Rattle.hunk_tool.proofs.laws.loaded_is_direct.Goals as goal

pub returns-clause-bytes : goal.returns-clause-bytes
returns-clause-bytes c = loaded-is-direct

pub returns-clause-memory : goal.returns-clause-memory
returns-clause-memory c = memory-is-direct
