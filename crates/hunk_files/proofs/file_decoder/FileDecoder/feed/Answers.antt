-- The first bytes are four, and were not before.
use Rattle.std.proofs.Common.{◌≡◌, ℕ, List, ◌≤◌, ◌-◌, ◌<◌, ◌++◌, length, drop, take, ap, subst, ◌∙◌, arith}
use Rattle.std.proofs.lemmas.List.{take_all, length-drop, length-take}
use Rattle.std.proofs.lemmas.Result.{on_ok_weaker}
use Rattle.hunk_files.specs.FileDecoder.{KindStandsFor}
use Rattle.hunk_files.specs.FileValue.{kind_of_bytes}
use Rattle.hunk_files.proofs.FileDecoderLemmas.{begins-begun, stands-begun}
use Rattle.hunk_files.proofs.file_decoder.FileDecoder.feed.Goals as goal

pub returns-clause-stands : goal.returns-clause-stands
returns-clause-stands g c = λ bytes stands.
    let piece = c.args.piece.now in
    let taken = c.take-taken.result in
    let rest = take (length piece - taken) (drop taken piece) in
    let few : length c.args.self.now.front < 4 = omega (arith, ap length c.as_bytes.ensures.value, c.as_bytes.ensures.few) in
    let four : length c.take-taken.new.self ≡ 4 = omega (arith, ap length c.as_bytes-front.ensures.value, c.as_bytes-front.ensures.few) in
    stands-begun g.O.KindDecoder.KIND g.O.KindDecoder.stands_for g.L.KindDecoder.KIND g.L.KindDecoder.stands_for c.args.self.now.decoders c.feed-3.new.self c.args.self.now.front c.take-taken.new.self bytes piece rest taken c.kind_of-kind-2.result
    stands few c.take-taken.ensures.value four (take_all (length piece - taken) (drop taken piece) (omega (arith, length-drop taken piece))) (c.kind_of-kind-2.ensures ∙ ap kind_of_bytes c.as_bytes-front.ensures.value)
    (λ new. subst (λ front. KindStandsFor g.O.KindDecoder.KIND g.O.KindDecoder.stands_for g.L.KindDecoder.KIND g.L.KindDecoder.stands_for c.kind_of-kind-2.result c.feed-3.new.self (front ++ rest)) c.as_bytes-front.ensures.value
    (c.feed-3.ensures.stands _ (c.feed-2.ensures.stands _ new)))

pub returns-then-front-lt-LONGWORD-clause-front : goal.returns-then-front-lt-LONGWORD-clause-front
returns-then-front-lt-LONGWORD-clause-front g c = λ bytes stands long.
    absurd (omega (arith, long, ap length stands.front, length-take 4 bytes, c.if-front-lt-LONGWORD.true, ap length c.as_bytes-front.ensures.value))

pub returns-clause-front : goal.returns-clause-front
returns-clause-front g c = on_ok_weaker c.feed-3.result (λ begins bytes stands long.
    begins-begun g.O.KindDecoder.KIND g.O.KindDecoder.stands_for g.L.KindDecoder.KIND g.L.KindDecoder.stands_for g.O.KindDecoder.begins g.L.KindDecoder.begins c.feed-3.new.self c.take-taken.new.self bytes c.kind_of-kind-2.result
    stands long (c.kind_of-kind-2.ensures ∙ ap kind_of_bytes c.as_bytes-front.ensures.value) (begins bytes)) c.feed-3.ensures.front
