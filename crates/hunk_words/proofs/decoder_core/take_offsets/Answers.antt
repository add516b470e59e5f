-- One more offset.
use Rattle.std.proofs.Common.{◌≡◌, ◌<◌, ◌≤◌, ◌+◌, ◌-◌, ◌*◌, ℕ, suc, List, [], ◌∷◌, ◌++◌, take, drop, length, Some, refl, sym, ap, subst, ◌∙◌, append_assoc, arith}
use Rattle.byteorder.specs.Endian.{big_number}
use Rattle.hunk_words.specs.Files.{most_longwords}
use Rattle.hunk_words.specs.DecoderCore.{Behind, StandsBy, fields_read, in_offsets, refused_at}
use Rattle.hunk_base.specs.Longwords.{longwords}
use Rattle.hunk_words.proofs.DecoderCoreLemmas.{StandsBy-append, few-events}
use Rattle.hunk_words.proofs.DecoderCoreOffsetsLemmas.{StandsBy-kept, StandsBy-stopped, offset-behind}
use Rattle.hunk_base.proofs.LongwordsLemmas.{longwords-next, longwords-front, length-longwords, length-unfinished, words-rest}
use Rattle.hunk_words.proofs.decoder_core.take_offsets.Goals as goal

-- one longword after others
next-words : (ws bytes : List ℕ) (i word : ℕ) → 4 * i + 4 ≤ length bytes → word ≡ big_number 4 (take 4 (drop (4 * i) bytes))
    → (ws ++ longwords (take (4 * i) bytes)) ++ word ∷ [] ≡ ws ++ longwords (take (4 * (i + 1)) bytes)
next-words ws bytes i word within is =
    append_assoc ws _ _ ∙ ap (λ us. ws ++ us) (ap (λ w. longwords (take (4 * i) bytes) ++ w ∷ []) is ∙ sym (longwords-next bytes i within))

pub loop-index-preserved : goal.loop-index-preserved
loop-index-preserved g c =
    let i = c.loop-index.index in
    let bytes = c.args.bytes.now in
    let kind = g.T.Taker.KIND in
    let four : 4 * i + 4 - 4 * i ≡ 4 = omega arith in
    let is : c.read_u32-offset.result ≡ big_number 4 (take 4 (drop (4 * i) bytes)) = rw four at c.read_u32-offset.ensures in
    record {
      given = c.in-Ok.ensures.given ∙ c.loop-index.invariant.given;
      behind = λ state more ws enough b.
          let place = c.args.place + i in
          let us = ws ++ longwords (take (4 * i) bytes) in
          let Before = g.T.Taker.stands_for c.loop-index.taker in
          let some : more - i ≡ suc (more - (i + 1)) = omega (arith, length-longwords bytes, length-unfinished bytes, enough) in
          let one = subst (λ n. Behind kind Before (in_offsets state n c.args.target place) us) some (c.loop-index.invariant.behind state more ws enough b) in
          let room : place < most_longwords = omega (arith, length-longwords bytes, length-unfinished bytes, c.requires.room) in
          let answered = c.in-Ok.ensures.answer state (more - (i + 1)) (fields_read kind us) one.progress one.reached (few-events kind Before _ us one room) in
          let after = offset-behind kind Before (g.T.Taker.stands_for c.take_offset.new.taker) state (more - (i + 1)) c.args.target place c.read_u32-offset.result us one room (omega arith) answered in
          let places : place + 1 ≡ c.args.place + (i + 1) = omega arith in
          subst (λ p. Behind kind (g.T.Taker.stands_for c.take_offset.new.taker) (in_offsets state (more - (i + 1)) c.args.target p) (ws ++ longwords (take (4 * (i + 1)) bytes))) places
          (subst (λ vs. Behind kind (g.T.Taker.stands_for c.take_offset.new.taker) (in_offsets state (more - (i + 1)) c.args.target (place + 1)) vs) (next-words ws bytes i c.read_u32-offset.result (omega arith) is) after);
    }

pub returns-in-Err-clause-taken : goal.returns-in-Err-clause-taken
returns-in-Err-clause-taken g c = λ state more ws enough b core keeps.
    let i = c.loop-index.index in
    let bytes = c.args.bytes.now in
    let kind = g.T.Taker.KIND in
    let four : 4 * i + 4 - 4 * i ≡ 4 = omega arith in
    let is : c.read_u32-offset.result ≡ big_number 4 (take 4 (drop (4 * i) bytes)) = rw four at c.read_u32-offset.ensures in
    let place = c.args.place + i in
    let us = ws ++ longwords (take (4 * i) bytes) in
    let Before = g.T.Taker.stands_for c.loop-index.taker in
    let After = g.T.Taker.stands_for c.take_offset.new.taker in
    let some : more - i ≡ suc (more - (i + 1)) = omega (arith, length-longwords bytes, length-unfinished bytes, enough) in
    let one = subst (λ n. Behind kind Before (in_offsets state n c.args.target place) us) some (c.loop-index.invariant.behind state more ws enough b) in
    let room : place < most_longwords = omega (arith, length-longwords bytes, length-unfinished bytes, c.requires.room) in
    let answered = c.in-Err.ensures.answer state (more - (i + 1)) (fields_read kind us) one.progress one.reached (few-events kind Before _ us one room) in
    let refusal = refused_at place c.in-Err.stop in
    let stopped = record (in_offsets state (suc (more - (i + 1))) c.args.target place) { refusal = Some refusal } in
    let stands = StandsBy-stopped kind Before After (in_offsets state (suc (more - (i + 1))) c.args.target place) us c.read_u32-offset.result c.in-Err.stop one room (omega arith) answered in
    let front = subst (λ vs. StandsBy kind After stopped vs) (next-words ws bytes i c.read_u32-offset.result (omega arith) is) stands in
    let whole = subst (λ vs. StandsBy kind After stopped vs) (words-rest ws bytes (4 * (i + 1))) (StandsBy-append kind After stopped (ws ++ longwords (take (4 * (i + 1)) bytes)) _ refusal refl front) in
    StandsBy-kept kind After After stopped core refusal (ws ++ longwords bytes) refl (keeps ∙ ap Some c.refusal_at.ensures) whole

pub returns-clause-taken : goal.returns-clause-taken
returns-clause-taken g c = λ state more ws enough b.
    let i = c.loop-index.index in
    let bytes = c.args.bytes.now in
    let After = g.T.Taker.stands_for c.loop-index.taker in
    let count : i ≡ length (longwords bytes) = omega (arith, length-longwords bytes, length-unfinished bytes) in
    subst (λ n. Behind g.T.Taker.KIND After (in_offsets state (more - n) c.args.target (c.args.place + n)) (ws ++ longwords bytes)) count
    (subst (λ us. Behind g.T.Taker.KIND After (in_offsets state (more - i) c.args.target (c.args.place + i)) (ws ++ us)) (longwords-front bytes i (omega arith) (omega arith))
    (c.loop-index.invariant.behind state more ws enough b))
