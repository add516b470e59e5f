use Rattle.hunk_store.proofs.MemoryStoreLemmas.{put_replaces}
use Rattle.hunk_store.proofs.memory_store.MemoryStore.insert.Goals as goal

pub returns-clause-ok : goal.returns-clause-ok
returns-clause-ok c =
    rw (← c.in_ok-name.ensures.ok, ← c.in_ok-bytes.ensures)
    (put_replaces c.in_ok-name.name _ c.args.self.now.files c.insert.new.self c.in_ok-insert.ensures.updates)
