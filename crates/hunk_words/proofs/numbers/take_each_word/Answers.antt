-- One more word.
use Rattle.std.proofs.Common.{◌≡◌, ◌<◌, ◌≤◌, ◌+◌, ◌-◌, ◌*◌, ◌^◌, ℕ, List, [], ◌∷◌, ◌++◌, take, drop, length, sym, ap, subst, ◌∙◌, append_assoc, length-append, arith}
use Rattle.std.proofs.lemmas.List.{length-take-le}
use Rattle.byteorder.specs.Endian.{big_number}
use Rattle.hunk_words.specs.Event.{word_events}
use Rattle.hunk_base.specs.Longwords.{longwords}
use Rattle.hunk_words.specs.declared.event.Event.{Event}
use Rattle.hunk_words.specs.declared.event.Event.TheVariants.{Word}
use Rattle.hunk_words.proofs.DecoderCoreRunLemmas.{word_events-append, length-word_events}
use Rattle.hunk_base.proofs.LongwordsLemmas.{longwords-next, longwords-front, length-longwords, length-unfinished, length-whole}
use Rattle.hunk_words.proofs.numbers.take_each_word.Goals as goal

-- one word's event after others
next-told : (told : List Event) (bytes : List ℕ) (i word : ℕ) → 4 * i + 4 ≤ length bytes → word ≡ big_number 4 (take 4 (drop (4 * i) bytes))
    → (told ++ word_events (longwords (take (4 * i) bytes))) ++ Word word ∷ [] ≡ told ++ word_events (longwords (take (4 * (i + 1)) bytes))
next-told told bytes i word within is =
    append_assoc told _ _
    ∙ ap (λ es. told ++ es) (ap (λ w. word_events (longwords (take (4 * i) bytes)) ++ Word w ∷ []) is
    ∙ sym (ap word_events (longwords-next bytes i within) ∙ word_events-append (longwords (take (4 * i) bytes)) (big_number 4 (take 4 (drop (4 * i) bytes)) ∷ [])))

room : (told : List Event) (bytes : List ℕ) (i : ℕ) → 4 * i + 4 ≤ length bytes → length told + length (longwords bytes) < 2 ^ 29 → length (told ++ word_events (longwords (take (4 * i) bytes))) < 2 ^ 29
room told bytes i within few =
    let front : length (longwords (take (4 * i) bytes)) ≡ i = length-whole (take (4 * i) bytes) i (length-take-le (4 * i) bytes (omega arith)) in
    omega (arith, length-append told (word_events (longwords (take (4 * i) bytes))), length-word_events (longwords (take (4 * i) bytes)), length-longwords bytes, length-unfinished bytes)

pub loop-index-preserved : goal.loop-index-preserved
loop-index-preserved g c =
    let i = c.loop-index.index in
    let bytes = c.args.bytes.now in
    let four : 4 * i + 4 - 4 * i ≡ 4 = omega arith in
    let is : c.read_u32-word.result ≡ big_number 4 (take 4 (drop (4 * i) bytes)) = rw four at c.read_u32-word.ensures in
    record {
      given = c.in-Ok.ensures.given ∙ c.loop-index.invariant.given;
      takes = λ told stands few. subst (λ es. g.T.Taker.stands_for c.take.new.self es) (next-told told bytes i c.read_u32-word.result (omega arith) is)
          (c.in-Ok.ensures.takes _ (c.loop-index.invariant.takes told stands few) (room told bytes i (omega arith) few));
    }

pub returns-clause-takes : goal.returns-clause-takes
returns-clause-takes g c = λ told stands few.
    subst (λ ws. g.T.Taker.stands_for c.loop-index.taker (told ++ word_events ws)) (longwords-front c.args.bytes.now c.loop-index.index (omega arith) (omega arith))
    (c.loop-index.invariant.takes told stands few)
