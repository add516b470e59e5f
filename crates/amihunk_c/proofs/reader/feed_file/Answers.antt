-- The piece was taken.
use Rattle.std.proofs.Common.{◌++◌}
use Rattle.amihunk_c.proofs.ReadingLemmas.{FeedsFile-reading}
use Rattle.amihunk_c.proofs.reader.feed_file.Goals as goal

pub returns-in-Ok : goal.returns-in-Ok
returns-in-Ok c =
    FeedsFile-reading c.args.piece.now c.args.session.now _ c.in-Reading.decoder c.plain.result c.in-Reading.is
    (λ bytes stands. let more = c.feed.ensures.stands bytes stands in (more, c.in-Ok.ensures.front (bytes ++ c.args.piece.now) more, c.plain.ensures))
