-- Whole longwords, and then the bytes after them.
use Rattle.std.proofs.Common.{◌≡◌, ◌≤◌, ◌*◌, ◌/◌, take, length, subst, ◌∙◌, arith}
use Rattle.std.proofs.lemmas.List.{length-take-le}
use Rattle.hunk_base.specs.Longwords.{longwords}
use Rattle.hunk_words.specs.Decoder.{StandsFor}
use Rattle.hunk_words.proofs.DecoderLemmas.{StandsFor-rest, StandsFor-words, append-tail}
use Rattle.hunk_words.proofs.decoder.Decoder.push_longwords.Goals as goal

pub returns-in-Ok-clause-stands : goal.returns-in-Ok-clause-stands
returns-in-Ok-clause-stands g c = λ bytes stands.
    let piece = c.args.piece.now in
    let n = length piece / 4 * 4 in
    let within : n ≤ length piece = omega arith in
    let fours : n ≡ 4 * (length piece / 4) = omega arith in
    subst (λ xs. StandsFor g.T.Taker.KIND g.T.Taker.stands_for c.push_all-in-Ok.new.self xs) (append-tail bytes piece n within)
    (c.push_all-in-Ok.ensures.stands _
    (StandsFor-words g.T.Taker.KIND g.T.Taker.stands_for c.args.self.now c.words.new.self bytes (take n piece) c.rest.result (length piece / 4) c.requires stands c.rest.ensures.rest (omega arith)
    (length-take-le n piece within ∙ fours) (c.in-Ok.ensures.stands (longwords bytes) stands.core)))

pub returns-in-Err-clause-stands : goal.returns-in-Err-clause-stands
returns-in-Err-clause-stands g c = λ bytes stands.
    let piece = c.args.piece.now in
    let n = length piece / 4 * 4 in
    let within : n ≤ length piece = omega arith in
    let fours : n ≡ 4 * (length piece / 4) = omega arith in
    StandsFor-rest _ _ _ bytes piece n c.in-Err.refusal c.in-Err.ensures.kept
    (StandsFor-words g.T.Taker.KIND g.T.Taker.stands_for c.args.self.now c.words.new.self bytes (take n piece) c.rest.result (length piece / 4) c.requires stands c.rest.ensures.rest (omega arith)
    (length-take-le n piece within ∙ fours) (c.in-Err.ensures.stands (longwords bytes) stands.core))
