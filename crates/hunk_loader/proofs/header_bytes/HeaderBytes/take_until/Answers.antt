-- What refuses the front of a piece refuses the piece.
use Rattle.std.proofs.lemmas.Result.{err_from_is_err_and}
use Rattle.hunk_loader.proofs.HeaderBytesLemmas.{Fed-refused}
use Rattle.hunk_loader.proofs.header_bytes.HeaderBytes.take_until.Goals as goal

pub returns-in_err-feed-clause-taken : goal.returns-in_err-feed-clause-taken
returns-in_err-feed-clause-taken g c = λ bytes holds.
    let p = err_from_is_err_and c.from_residual-in_err-feed.result c.from_residual-in_err-feed.ensures.1 in
    rw (p.1, p.2) (Fed-refused c.feed.new.self bytes c.args.piece.now c.min-taken.result c.in_err-feed.field-0.0 c.in_err-feed.ensures.kept (c.in_err-feed.ensures.stands bytes holds.stands))
