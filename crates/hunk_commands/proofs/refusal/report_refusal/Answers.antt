-- What is told was put into a text that was finished.
use Rattle.std.proofs.Common.{[], rules}
use Rattle.hunk_base.proofs.TextLemmas.{Puts-as}
use Rattle.hunk_store.proofs.FailureLemmas.{tells_text}
use Rattle.hunk_commands.proofs.refusal.report_refusal.Goals as goal

pub returns-clause-line : goal.returns-clause-line
returns-clause-line g c =
    let put = Puts-as c.as_bytes.ensures.value c.put.ensures in
    let wrote = c.finish.ensures.wrote c.args.errors.now _ (put.adds _ [] c.new-text.ensures.empty) in
    let told = tells_text g.W.Sink.taken g.W.Sink.failed c.args.errors.now _ _ c.finish.result wrote in
    search (rules, told)
