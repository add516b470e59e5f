-- The whole run was taken, or one offset is refused.
use Rattle.std.proofs.Common.{◌≡◌, ◌+◌, ◌-◌, ◌*◌, ◌++◌, take, length, Some, refl, subst, arith}
use Rattle.std.proofs.lemmas.List.{length-take-le}
use Rattle.hunk_words.specs.DecoderCore.{Behind, StandsBy, in_offsets}
use Rattle.hunk_base.specs.Longwords.{longwords}
use Rattle.hunk_words.proofs.DecoderCoreLemmas.{StandsBy-append}
use Rattle.hunk_words.proofs.DecoderCoreOffsetsLemmas.{Behind-due}
use Rattle.hunk_base.proofs.LongwordsLemmas.{length-whole, words-rest}
use Rattle.hunk_words.proofs.decoder_core.Core.take_sites.Goals as goal

pub take_offsets-requires : goal.take_offsets-requires
take_offsets-requires g c =
    let n = c.run_length-count.result in
    omega (arith, length-whole (take (4 * n) c.args.bytes.now) n (length-take-le (4 * n) c.args.bytes.now c.run_length-count.ensures.within), c.run_length-count.ensures.room (omega arith))

pub returns-in-Ok-clause-stands : goal.returns-in-Ok-clause-stands
returns-in-Ok-clause-stands g c = λ ws stands.
    let kind = g.T.Taker.KIND in
    let s = c.args.self.now.state in
    let n = c.run_length-count.result in
    let us = longwords (take (4 * n) c.args.bytes.now) in
    let After = g.T.Taker.stands_for c.take_offsets.new.taker in
    let counted : length us ≡ n = length-whole (take (4 * n) c.args.bytes.now) n (length-take-le (4 * n) c.args.bytes.now c.run_length-count.ensures.within) in
    let taken = c.in-Ok.ensures.taken s.state c.args.more ws (omega (arith, counted, c.run_length-count.ensures.few)) (Behind-due kind _ s c.args.more c.args.target ws c.requires.due c.requires.none stands) in
    rw c.after_run-self.ensures (record {
      good = λ none. subst (λ k. Behind kind After (in_offsets s.state (c.args.more - k) c.args.target (s.place + k)) (ws ++ us)) counted taken;
      faulty = λ fault is. absurd cc;
    })

pub returns-in-Err-clause-stands : goal.returns-in-Err-clause-stands
returns-in-Err-clause-stands g c = λ ws stands.
    let kind = g.T.Taker.KIND in
    let s = c.args.self.now.state in
    let n = c.run_length-count.result in
    let After = g.T.Taker.stands_for c.take_offsets.new.taker in
    let core = record s { refusal = Some c.in-Err.refusal } in
    let counted : length (longwords (take (4 * n) c.args.bytes.now)) ≡ n = length-whole (take (4 * n) c.args.bytes.now) n (length-take-le (4 * n) c.args.bytes.now c.run_length-count.ensures.within) in
    let taken = c.in-Err.ensures.taken s.state c.args.more ws (omega (arith, counted, c.run_length-count.ensures.few)) (Behind-due kind _ s c.args.more c.args.target ws c.requires.due c.requires.none stands) core refl in
    subst (λ us. StandsBy kind After core us) (words-rest ws c.args.bytes.now (4 * n)) (StandsBy-append kind After core (ws ++ longwords (take (4 * n) c.args.bytes.now)) _ c.in-Err.refusal refl taken)
