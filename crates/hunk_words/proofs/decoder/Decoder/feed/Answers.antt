-- To the end of an unfinished longword, and then longword by longword.
use Rattle.std.proofs.Common.{sym, subst, arith, rules}
use Rattle.hunk_words.specs.Decoder.{StandsFor}
use Rattle.hunk_words.proofs.DecoderLemmas.{StandsFor-append, StandsFor-rest, StandsFor-front, StandsFor-bounded, OnOk-kept, append-tail}
use Rattle.hunk_words.proofs.decoder.Decoder.feed.Goals as goal

pub returns-in-Some-clause-stands : goal.returns-in-Some-clause-stands
returns-in-Some-clause-stands g c = λ bytes stands.
    StandsFor-append _ _ c.args.self.now bytes c.args.piece.now c.in-Some.refusal (sym c.in-Some.ensures) stands

pub returns-in-Ok-clause-front : goal.returns-in-Ok-clause-front
returns-in-Ok-clause-front g c = OnOk-kept _ c.push_longwords.result c.push_longwords.ensures.kept (λ none bytes stands. StandsFor-front _ _ c.push_longwords.new.self bytes none stands)

pub returns-in-Ok-clause-bounded : goal.returns-in-Ok-clause-bounded
returns-in-Ok-clause-bounded g c = OnOk-kept _ c.push_longwords.result c.push_longwords.ensures.kept (λ none bytes stands. StandsFor-bounded _ _ c.push_longwords.new.self bytes none stands)

pub returns-in-Ok-clause-stands : goal.returns-in-Ok-clause-stands
returns-in-Ok-clause-stands g c = λ bytes stands.
    let piece = c.args.piece.now in
    let n = c.min-lead.result in
    subst (λ xs. StandsFor g.T.Taker.KIND g.T.Taker.stands_for c.push_longwords.new.self xs) (append-tail bytes piece n (omega arith))
    (c.push_longwords.ensures.stands _ (c.in-Ok.ensures.stands bytes stands))

pub returns-in-Err-clause-stands : goal.returns-in-Err-clause-stands
returns-in-Err-clause-stands g c = λ bytes stands.
    StandsFor-rest _ _ c.push_all.new.self bytes c.args.piece.now c.min-lead.result c.in-Err.refusal c.in-Err.ensures.kept (c.in-Err.ensures.stands bytes stands)

pub returns-then-is_empty-clause-front : goal.returns-then-is_empty-clause-front
returns-then-is_empty-clause-front g c = λ bytes stands. StandsFor-front _ _ c.args.self.now bytes (search rules) stands

pub returns-then-is_empty-clause-bounded : goal.returns-then-is_empty-clause-bounded
returns-then-is_empty-clause-bounded g c = λ bytes stands. StandsFor-bounded _ _ c.args.self.now bytes (search rules) stands
