-- The pieces of the line were put into a text that was finished.
use Rattle.std.proofs.Common.{[], rules}
use Rattle.hunk_base.proofs.TextLemmas.{◌⨾◌, Puts-as}
use Rattle.hunk_store.proofs.FailureLemmas.{tells_text}
use Rattle.hunk_store.proofs.failure.tell_of_part.Goals as goal

pub returns : goal.returns
returns g c =
    let line = c.put.ensures ⨾ Puts-as c.as_bytes.ensures.value c.put-2.ensures ⨾ c.put-3.ensures ⨾ c.put_decimal.ensures ⨾ c.put-4.ensures ⨾ c.end_line.ensures in
    let wrote = c.finish.ensures.wrote c.args.errors.now _ (line.adds _ [] c.new-text.ensures.empty) in
    let told = tells_text g.W.Sink.taken g.W.Sink.failed c.args.errors.now _ _ c.finish.result wrote in
    search (rules, told)
