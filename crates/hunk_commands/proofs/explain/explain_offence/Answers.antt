-- The lines that explain it, or why it was not read again.
use Rattle.std.proofs.Common.{[], inr, refl, rules}
use Rattle.hunk_base.proofs.StreamsLemmas.{HasRead-weaker}
use Rattle.hunk_files.specs.ExplanationText.{explanation_text}
use Rattle.hunk_tool.specs.FileSystem.{IsReaderOf}
use Rattle.hunk_store.specs.Addresses.{input_of}
use Rattle.hunk_store.proofs.FailureLemmas.{tells_text}
use Rattle.hunk_commands.specs.Explain.{AreOffenceLines, kind_read}
use Rattle.hunk_commands.proofs.ExplainLemmas.{tells_exactly}
use Rattle.hunk_commands.proofs.explain.explain_offence.Goals as goal

pub returns-in_default : goal.returns-in_default
returns-in_default g c =
    let input = input_of g.S.File.Source.left g.S.File.Source.failed g.S.File.Source.ended c.in_ok-reader.reader c.explanation_of.new.reader in
    let reader : IsReaderOf (g.S.FileSystem.content c.args.store.now c.args.name.now) input = record { from_start = c.in_ok-reader.ensures.there; to_end = g.met.S.FileSystem.at_end _; may_fail = g.met.S.FileSystem.may_fail _ _ _ } in
    (inr (record { input = input; is_reader = reader; holds = rw c.in_default.is at c.in_ok-explanation.ensures.given }), refl)

pub returns : goal.returns
returns g c =
    let content = g.S.FileSystem.content c.args.store.now c.args.name.now in
    let input = input_of g.S.File.Source.left g.S.File.Source.failed g.S.File.Source.ended c.in_ok-reader.reader c.explanation_of.new.reader in
    let reader : IsReaderOf content input = record { from_start = c.in_ok-reader.ensures.there; to_end = g.met.S.FileSystem.at_end _; may_fail = g.met.S.FileSystem.may_fail _ _ _ } in
    let read = rw c.in-Some.is at c.in_ok-explanation.ensures.given in
    let lines : AreOffenceLines content (kind_read c.args.command) c.args.fault (explanation_text c.in-Some.explanation) =
    record { input = input; is_reader = reader; holds = HasRead-weaker _ _ _ _ (λ bytes given. record { explanation = c.in-Some.explanation; given = given; lines_are = refl }) read } in
    let wrote = c.finish.ensures.wrote c.args.errors.now _ (c.write_explanation.ensures.adds _ [] c.new-text.ensures.empty) in
    let told = tells_exactly g.W.Sink.taken g.W.Sink.failed c.args.errors.now _ (AreOffenceLines content (kind_read c.args.command) c.args.fault) (explanation_text c.in-Some.explanation) lines
    (tells_text g.W.Sink.taken g.W.Sink.failed c.args.errors.now _ _ c.finish.result wrote) in
    search (rules, told)
