-- One more byte; an error stands for the rest of the piece.
use Rattle.std.proofs.Common.{◌+◌, ◌++◌, take, drop, subst, ◌∙◌, arith}
use Rattle.hunk_words.specs.Decoder.{StandsFor}
use Rattle.hunk_words.proofs.DecoderLemmas.{StandsFor-append, append-next, append-rest}
use Rattle.hunk_words.proofs.decoder.Decoder.push_all.Goals as goal

pub loop-byte-preserved : goal.loop-byte-preserved
loop-byte-preserved g c = record {
  open_yet = c.in-Ok.ensures.kept;
  given = c.in-Ok.ensures.given ∙ c.loop-byte.invariant.given;
  stands = λ bytes stands. subst (λ xs. StandsFor g.T.Taker.KIND g.T.Taker.stands_for c.push.new.self xs) (append-next bytes c.args.piece.now c.loop-byte.byte-index (omega arith))
      (c.in-Ok.ensures.stands _ (c.loop-byte.invariant.stands bytes stands));
}

pub returns-in-Err-clause-stands : goal.returns-in-Err-clause-stands
returns-in-Err-clause-stands g c = λ bytes stands.
    let i = c.loop-byte.byte-index in
    subst (λ xs. StandsFor g.T.Taker.KIND g.T.Taker.stands_for c.push.new.self xs) (append-rest bytes c.args.piece.now (i + 1))
    (StandsFor-append _ _ c.push.new.self (bytes ++ take (i + 1) c.args.piece.now) (drop (i + 1) c.args.piece.now) c.in-Err.refusal c.in-Err.ensures.kept
    (subst (λ xs. StandsFor g.T.Taker.KIND g.T.Taker.stands_for c.push.new.self xs) (append-next bytes c.args.piece.now i (omega arith))
    (c.in-Err.ensures.stands _ (c.loop-byte.invariant.stands bytes stands))))
