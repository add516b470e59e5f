use Rattle.std.proofs.lemmas.Result.{err_from_is_err_and}
use Rattle.hunk_words.proofs.DecoderRefusalLemmas.{read-refused, read-stopped}
use Rattle.hunk_base.proofs.StreamsLemmas.{HasRead-weaker}
use Rattle.hunk_words.proofs.value_decoder.read_value.Goals as goal

pub returns-in_err-read_all-clause-refused : goal.returns-in_err-read_all-clause-refused
returns-in_err-read_all-clause-refused g c =
    let p = err_from_is_err_and c.from_residual.result c.from_residual.ensures.1 in
    rw (p.1, p.2) (read-stopped g.B.Taker.KIND g.B.Taker.stands_for c.read_all.new.decoder _ _ (g.R.Source.ended c.read_all.new.reader) (g.R.Source.failed c.read_all.new.reader) _ c.in_err-read_all.ensures.stopped)

pub returns-in_err-finish-clause-refused : goal.returns-in_err-finish-clause-refused
returns-in_err-finish-clause-refused g c =
    let p = err_from_is_err_and c.from_residual-in_err-finish.result c.from_residual-in_err-finish.ensures.1 in
    rw (p.1, p.2) (read-refused g.B.Taker.KIND _ _ _ _ (g.R.Source.failed c.read_all.new.reader) _ c.in_ok-read_all.ensures.ended c.in_ok-read_all.ensures.whole c.in_err-finish.ensures.refused)

pub returns-clause-file : goal.returns-clause-file
returns-clause-file g c = HasRead-weaker _ _ _ _ c.in_ok-finish.ensures.file c.in_ok-read_all.ensures.whole
