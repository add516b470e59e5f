-- What the writer took was added.
use Rattle.std.proofs.Common.{◌≡◌, ◌||◌, ◌∙◌, ap, length, refl, take, arith}
use Rattle.std.proofs.lemmas.List.{length-take-le}
use Rattle.hunk_base.specs.declared.fault.DeviceFault.{DeviceFault}
use Rattle.hunk_base.proofs.StreamsLemmas.{refuses-some}
use Rattle.hunk_base.proofs.TextLemmas.{Puts-took}
use Rattle.hunk_base.proofs.text.Text.write_some.Goals as goal

pub returns-in-Ok-clause-puts : goal.returns-in-Ok-clause-puts
returns-in-Ok-clause-puts g c =
    let taken : length (take c.in-Ok.count c.args.piece.now) ≡ c.in-Ok.count = length-take-le c.in-Ok.count c.args.piece.now c.in-Ok.ensures.count in
    Puts-took g.W.Sink.taken g.W.Sink.failed _ _ (take c.in-Ok.count c.args.piece.now) c.requires.going c.requires.going refl
    (omega (arith, taken, c.saturating_add-self.ensures))
    c.in-Ok.ensures.bytes
    (c.in-Ok.ensures.failed ∙ ap (λ refused. refused || g.W.Sink.failed c.args.self.now.writer.now) (refuses-some DeviceFault c.in-Ok.count _ (omega arith)))
