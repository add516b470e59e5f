-- One more byte; an error stands for what follows.
use Rattle.std.proofs.Common.{◌∙◌, ◌+◌, ◌++◌, take, drop, sym, subst, arith}
use Rattle.std.proofs.lemmas.Grind.{common_steps}
use Rattle.hunk_words.proofs.DecoderLemmas.{append-next, append-rest}
use Rattle.hunk_files.specs.Follower.{StandsFor}
use Rattle.hunk_files.proofs.FollowerLemmas.{StandsFor-append, StandsFor-bounded, StandsFor-refused}
use Rattle.hunk_files.proofs.follower.Follower.feed.Goals as goal

pub returns-in-Some-clause-stands : goal.returns-in-Some-clause-stands
returns-in-Some-clause-stands g c = λ bytes stands. StandsFor-append _ _ c.args.self.now bytes c.args.piece.now c.in-Some.refusal (sym c.refusal.ensures ∙ c.in-Some.is) stands

pub loop-byte-preserved : goal.loop-byte-preserved
loop-byte-preserved g c = record {
  open_yet = c.in-Ok.ensures.kept;
  stands = λ bytes stands. subst (λ xs. StandsFor g.T.Taker.KIND g.T.Taker.stands_for c.push.new.self xs) (append-next bytes c.args.piece.now c.loop-byte.byte-index (omega arith))
      (c.in-Ok.ensures.stands _ (c.loop-byte.invariant.stands bytes stands));
}

pub returns-in-Err-clause-stands : goal.returns-in-Err-clause-stands
returns-in-Err-clause-stands g c = λ bytes stands.
    let i = c.loop-byte.byte-index in
    subst (λ xs. StandsFor g.T.Taker.KIND g.T.Taker.stands_for c.push.new.self xs) (append-rest bytes c.args.piece.now (i + 1))
    (StandsFor-append _ _ c.push.new.self (bytes ++ take (i + 1) c.args.piece.now) (drop (i + 1) c.args.piece.now) c.in-Err.refusal c.in-Err.ensures.kept
    (subst (λ xs. StandsFor g.T.Taker.KIND g.T.Taker.stands_for c.push.new.self xs) (append-next bytes c.args.piece.now i (omega arith))
    (c.in-Err.ensures.stands _ (c.loop-byte.invariant.stands bytes stands))))

pub returns-clause-bounded : goal.returns-clause-bounded
returns-clause-bounded g c = λ bytes stands. StandsFor-bounded _ _ c.loop-byte.self bytes c.loop-byte.invariant.open_yet stands

pub returns-in-Some-clause-refused : goal.returns-in-Some-clause-refused
returns-in-Some-clause-refused g c = λ bytes stands. StandsFor-refused _ _ c.args.self.now bytes c.in-Some.refusal (sym c.refusal.ensures ∙ c.in-Some.is) stands

pub returns-in-Err-clause-refused : goal.returns-in-Err-clause-refused
returns-in-Err-clause-refused g c = λ bytes stands. StandsFor-refused _ _ c.push.new.self bytes c.in-Err.refusal c.in-Err.ensures.kept stands

-- `grind` at once: `search`, which Rattle tries before it, is slow here
pub loop-byte-init : goal.loop-byte-init
loop-byte-init g c = grind (arith, common_steps)

pub returns-clause-stands : goal.returns-clause-stands
returns-clause-stands g c = grind (arith, common_steps)
