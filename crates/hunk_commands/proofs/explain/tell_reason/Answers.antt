-- The line was put into a text that was finished.
use Rattle.std.proofs.Common.{[], refl, rules}
use Rattle.hunk_store.proofs.FailureLemmas.{tells_text}
use Rattle.hunk_commands.specs.Explain.{IsReason}
use Rattle.hunk_commands.specs.Reason.{reason_line}
use Rattle.hunk_commands.proofs.ExplainLemmas.{tells_exactly}
use Rattle.hunk_commands.proofs.explain.tell_reason.Goals as goal

pub returns : goal.returns
returns g c =
    let wrote = c.finish.ensures.wrote c.args.errors.now _ (c.write_reason_line.ensures.adds _ [] c.new-text.ensures.empty) in
    let told = tells_exactly g.W.Sink.taken g.W.Sink.failed c.args.errors.now _ (IsReason c.args.reason) (reason_line c.args.reason) refl
    (tells_text g.W.Sink.taken g.W.Sink.failed c.args.errors.now _ _ c.finish.result wrote) in
    search (rules, told)
