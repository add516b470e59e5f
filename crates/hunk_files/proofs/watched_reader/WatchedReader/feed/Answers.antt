-- One more byte; an error stands for what follows.
use Rattle.std.proofs.Common.{◌+◌, ◌++◌, take, drop, subst, arith}
use Rattle.hunk_words.proofs.DecoderLemmas.{append-next, append-rest}
use Rattle.hunk_files.specs.WatchedReader.{StandsFor}
use Rattle.hunk_files.proofs.WatchedReaderLemmas.{StandsFor-append, StandsFor-bounded}
use Rattle.hunk_files.proofs.watched_reader.WatchedReader.feed.Goals as goal

pub returns-in-Some-clause-stands : goal.returns-in-Some-clause-stands
returns-in-Some-clause-stands g c = λ bytes stands. StandsFor-append _ _ _ c.args.self.now bytes c.args.piece.now c.in-Some.refusal c.in-Some.is stands

pub returns-in-Err-clause-stands : goal.returns-in-Err-clause-stands
returns-in-Err-clause-stands g c = λ bytes stands.
    let i = c.loop-byte.byte-index in
    subst (λ xs. StandsFor g.B.Taker.KIND g.B.Taker.stands_for g.W.Watcher.stands_for c.push.new.self xs) (append-rest bytes c.args.piece.now (i + 1))
    (StandsFor-append _ _ _ c.push.new.self (bytes ++ take (i + 1) c.args.piece.now) (drop (i + 1) c.args.piece.now) c.in-Err.refusal c.in-Err.ensures.kept
    (subst (λ xs. StandsFor g.B.Taker.KIND g.B.Taker.stands_for g.W.Watcher.stands_for c.push.new.self xs) (append-next bytes c.args.piece.now i (omega arith))
    (c.in-Err.ensures.stands _ (c.loop-byte.invariant.stands bytes stands))))

pub returns-clause-bounded : goal.returns-clause-bounded
returns-clause-bounded g c = λ bytes stands. StandsFor-bounded _ _ _ c.loop-byte.self bytes c.loop-byte.invariant.open_yet stands
