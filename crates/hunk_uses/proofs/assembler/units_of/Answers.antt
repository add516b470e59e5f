-- What is refused of the piece is refused of the file, and the decoder stands for the piece.
use Rattle.std.proofs.Common.{[]}
use Rattle.std.proofs.lemmas.Result.{IfOk-weaker, err_from_is_err_and}
use Rattle.hunk_words.specs.declared.event.FileKind.TheVariants.{Object}
use Rattle.hunk_uses.proofs.AssemblerLemmas.{IfErr-weaker, RefusesInput-bytes}
use Rattle.hunk_uses.proofs.assembler.units_of.Goals as goal

pub returns-in_err-feed-clause-refused : goal.returns-in_err-feed-clause-refused
returns-in_err-feed-clause-refused c =
    let p = err_from_is_err_and c.from_residual.result c.from_residual.ensures.1 in
    rw (p.1, p.2) (RefusesInput-bytes Object c.args.object.now c.in_err-feed.field-0.0 (c.in_err-feed.ensures.refused c.args.object.now (c.in_err-feed.ensures.stands [] c.new-decoder.ensures.stands)))

pub returns-clause-read : goal.returns-clause-read
returns-clause-read c = IfOk-weaker c.finish.result _ _ (λ units holds. holds c.args.object.now (c.in_ok-feed.ensures.stands [] c.new-decoder.ensures.stands)) c.finish.ensures.file

pub returns-clause-refused : goal.returns-clause-refused
returns-clause-refused c = IfErr-weaker c.finish.result _ _ (λ refusal holds. holds c.args.object.now (c.in_ok-feed.ensures.stands [] c.new-decoder.ensures.stands)) c.finish.ensures.refused
