-- The decoder of its kind was fed all bytes.
use Rattle.std.proofs.Common.{length, inl, inr, subst, ◌∙◌, ap, arith}
use Rattle.std.proofs.lemmas.Result.{IfErr-weaker, IfOk-weaker}
use Rattle.hunk_words.specs.Decoder.{RefusesInput}
use Rattle.hunk_files.specs.FileDecoder.{IsFileOf, KindStandsFor}
use Rattle.hunk_files.specs.FileValue.{kind_of_bytes}
use Rattle.hunk_files.proofs.FileDecoderLemmas.{IsFedWhole, stands-at_end}
use Rattle.hunk_files.proofs.file_decoder.FileDecoder.finish.Given.{Over}
use Rattle.hunk_files.proofs.file_decoder.FileDecoder.finish.Goals as goal
use Rattle.hunk_files.proofs.file_decoder.FileDecoder.finish.Goals.{then-front-lt-LONGWORD, else-front-lt-LONGWORD}

fed : (g : Over) (c : goal.After-finish g)
    → IsFedWhole (KindStandsFor g.O.KindDecoder.KIND g.O.KindDecoder.stands_for g.L.KindDecoder.KIND g.L.KindDecoder.stands_for c.kind_of-kind.result) c.args.self.front c.args.self.decoders c.if-front-lt-LONGWORD.decoders
fed g c = elim c.if-front-lt-LONGWORD.branch [
  | then-front-lt-LONGWORD w ↦ inl (
    omega (arith, ap length c.as_bytes-front.ensures.value),
    λ stands.
        let all = w.feed.ensures.stands _ stands in
        subst (KindStandsFor g.O.KindDecoder.KIND g.O.KindDecoder.stands_for g.L.KindDecoder.KIND g.L.KindDecoder.stands_for c.kind_of-kind.result c.if-front-lt-LONGWORD.decoders) c.as_bytes-front.ensures.value
        (rw (w.decoders-is) all),
  )
  | else-front-lt-LONGWORD w ↦ inr (omega (arith, ap length c.as_bytes-front.ensures.value), w.decoders-is)
]

pub returns-clause-value : goal.returns-clause-value
returns-clause-value g c = IfOk-weaker c.finish.result _ _ (λ file holds bytes stands.
    let fed = stands-at_end g.O.KindDecoder.KIND g.O.KindDecoder.stands_for g.L.KindDecoder.KIND g.L.KindDecoder.stands_for c.args.self _ _ bytes stands (c.kind_of-kind.ensures ∙ ap kind_of_bytes c.as_bytes-front.ensures.value) (fed g c) in
    subst (λ kind. IsFileOf g.O.KindDecoder.is_value g.L.KindDecoder.is_value kind file bytes) fed.0 (holds bytes fed.1)) c.finish.ensures.value

pub returns-clause-refused : goal.returns-clause-refused
returns-clause-refused g c = IfErr-weaker c.finish.result _ _ (λ refusal holds bytes stands.
    let fed = stands-at_end g.O.KindDecoder.KIND g.O.KindDecoder.stands_for g.L.KindDecoder.KIND g.L.KindDecoder.stands_for c.args.self _ _ bytes stands (c.kind_of-kind.ensures ∙ ap kind_of_bytes c.as_bytes-front.ensures.value) (fed g c) in
    subst (λ kind. RefusesInput kind bytes refusal) fed.0 (holds bytes fed.1)) c.finish.ensures.refused
