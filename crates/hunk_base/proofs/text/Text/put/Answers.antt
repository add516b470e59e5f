-- What was taken is followed by what is left; after a failure the rest is left out.
use Rattle.std.proofs.Common.{◌≡◌, ◌-◌, ◌∙◌, ◌++◌, ap, drop, length, length-drop, subst, sym, take, arith, rules}
use Rattle.std.proofs.Math.Seq.{take-add}
use Rattle.std.proofs.lemmas.List.{take-append-drop, take_all}
use Rattle.hunk_base.specs.Text.{Puts}
use Rattle.hunk_base.proofs.TextLemmas.{Puts-stopped, Puts-then}
use Rattle.hunk_base.proofs.text.Text.put.Goals as goal

pub loop-done-preserved : goal.loop-done-preserved
loop-done-preserved g c =
    let piece = c.args.piece.now in
    let done = c.loop-done.done in
    let count = c.write_some-done.result in
    let rest : take (length piece - done) (drop done piece) ≡ drop done piece = take_all _ _ (omega (arith, length-drop done piece)) in
    record {
      inside = omega (arith, c.write_some-done.ensures.count, ap length rest, length-drop done piece);
      puts =
          subst (λ t. Puts g.W.Sink.taken g.W.Sink.failed c.args.self.now c.write_some-done.new.self t) (ap (λ more. take done piece ++ take count more) rest ∙ sym (take-add done count piece))
          (Puts-then g.W.Sink.taken g.W.Sink.failed c.loop-done.invariant.puts c.write_some-done.ensures.puts);
    }

pub returns-else-not-self : goal.returns-else-not-self
returns-else-not-self g c =
    let piece = c.args.piece.now in
    let done = c.loop-done.done in
    subst (λ t. Puts g.W.Sink.taken g.W.Sink.failed c.args.self.now c.loop-done.self t) (take-append-drop done piece)
    (Puts-then g.W.Sink.taken g.W.Sink.failed c.loop-done.invariant.puts (Puts-stopped g.W.Sink.taken g.W.Sink.failed c.loop-done.self (drop done piece) c.if-not-self.false))

-- named, so that a mistake is refused without a look for advice
pub loop-done-init : goal.loop-done-init
loop-done-init g c = search rules
