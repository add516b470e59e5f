-- Some more longwords.
use Rattle.std.proofs.Common.{◌≡◌, ◌≤◌, ◌-◌, ◌*◌, ◌++◌, take, drop, length, ap, ◌∙◌, subst, length-drop, arith}
use Rattle.std.proofs.lemmas.List.{take_all}
use Rattle.hunk_base.specs.Longwords.{longwords}
use Rattle.hunk_words.specs.DecoderCore.{StandsFor}
use Rattle.hunk_base.proofs.LongwordsLemmas.{words-more, words-all, longwords-front}
use Rattle.hunk_words.proofs.decoder_core.Core.words.Goals as goal

pub loop-taken-preserved : goal.loop-taken-preserved
loop-taken-preserved g c =
    let i = c.loop-taken.taken in
    let n = c.in-Ok.more in
    let bytes = c.args.bytes.now in
    let within : 4 * i ≤ length bytes = c.loop-taken.invariant.within in
    let rest : take (length bytes - 4 * i) (drop (4 * i) bytes) ≡ drop (4 * i) bytes = take_all _ _ (omega (arith, length-drop (4 * i) bytes)) in
    record {
      open_yet = c.in-Ok.ensures.kept;
      within = let few = c.in-Ok.ensures.count in omega (arith, few.1, ap length rest, length-drop (4 * i) bytes);
      given = c.in-Ok.ensures.given ∙ c.loop-taken.invariant.given;
      stands = λ ws stands. subst (λ us. StandsFor g.T.Taker.KIND g.T.Taker.stands_for c.take_some.new.self us) (words-more ws bytes i n within)
          (subst (λ xs. StandsFor g.T.Taker.KIND g.T.Taker.stands_for c.take_some.new.self ((ws ++ longwords (take (4 * i) bytes)) ++ longwords (take (4 * n) xs))) rest
          (c.in-Ok.ensures.stands _ (c.loop-taken.invariant.stands ws stands)));
    }

pub returns-in-Err-clause-stands : goal.returns-in-Err-clause-stands
returns-in-Err-clause-stands g c = λ ws stands.
    let i = c.loop-taken.taken in
    let bytes = c.args.bytes.now in
    let rest : take (length bytes - 4 * i) (drop (4 * i) bytes) ≡ drop (4 * i) bytes = take_all _ _ (omega (arith, length-drop (4 * i) bytes)) in
    subst (λ us. StandsFor g.T.Taker.KIND g.T.Taker.stands_for c.take_some.new.self us) (words-all ws bytes i c.loop-taken.invariant.within)
    (subst (λ xs. StandsFor g.T.Taker.KIND g.T.Taker.stands_for c.take_some.new.self ((ws ++ longwords (take (4 * i) bytes)) ++ longwords xs)) rest
    (c.in-Err.ensures.stands _ (c.loop-taken.invariant.stands ws stands)))

pub returns-clause-stands : goal.returns-clause-stands
returns-clause-stands g c = λ ws stands.
    subst (λ us. StandsFor g.T.Taker.KIND g.T.Taker.stands_for c.loop-taken.self us) (ap (λ us. ws ++ us) (longwords-front c.args.bytes.now c.loop-taken.taken (omega arith) (omega arith)))
    (c.loop-taken.invariant.stands ws stands)
