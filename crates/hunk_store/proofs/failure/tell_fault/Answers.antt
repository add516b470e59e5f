-- What was written tells the line, or a write failed.
use Rattle.hunk_store.proofs.FailureLemmas.{tells_text}
use Rattle.hunk_store.proofs.failure.tell_fault.Goals as goal

pub returns : goal.returns
returns g c = tells_text g.W.Sink.taken g.W.Sink.failed c.args.errors.now c.write_fault.new.writer _ c.write_fault.result c.write_fault.ensures.wrote
