-- The whole run was taken.
use Rattle.std.proofs.Common.{◌≡◌, ◌<◌, ◌≤◌, ◌+◌, ◌*◌, take, length, arith}
use Rattle.std.proofs.lemmas.List.{length-take-le}
use Rattle.hunk_words.specs.Files.{most_longwords}
use Rattle.hunk_base.specs.Longwords.{longwords}
use Rattle.std.proofs.lemmas.List.Elements.{All-take}
use Rattle.hunk_base.proofs.LongwordsByteLemmas.{are-bytes, longwords-long}
use Rattle.hunk_base.proofs.LongwordsLemmas.{length-whole, unfinished-none}
use Rattle.hunk_words.proofs.DecoderCoreRunLemmas.{StandsBy-run, StandsBy-due}
use Rattle.hunk_words.proofs.decoder_core.Core.take_run.Goals as goal

pub returns-in-Ok-clause-stands : goal.returns-in-Ok-clause-stands
returns-in-Ok-clause-stands g c = λ ws stands.
    let s = c.args.self.now.state in
    let n = c.run_length-count.result in
    let front = take (4 * n) c.args.bytes.now in
    let within : 4 * n ≤ length c.args.bytes.now = c.run_length-count.ensures.within in
    let some : 0 < n = omega arith in
    let counted : length front ≡ 4 * n = length-take-le (4 * n) c.args.bytes.now within in
    let few : n ≤ c.args.more = c.run_length-count.ensures.few in
    let room : s.place + n ≤ most_longwords = c.run_length-count.ensures.room some in
    rw c.after_run-self.ensures (StandsBy-run g.T.Taker.KIND _ _ s.state c.args.more n c.args.then s.place ws (longwords front)
    (StandsBy-due g.T.Taker.KIND _ s c.args.more c.args.then ws c.requires.due c.requires.none stands)
    some few room (length-whole front n counted) (longwords-long front (All-take (λ b. b < 256) (4 * n) c.args.bytes.now (are-bytes c.args.bytes.now c.type_inv.bytes))) c.in-Ok.ensures.takes)

-- the bytes of whole longwords
pub take_words-requires : goal.take_words-requires
take_words-requires g c = unfinished-none _ c.run_length-count.result (length-take-le (4 * c.run_length-count.result) c.args.bytes.now c.run_length-count.ensures.within)
