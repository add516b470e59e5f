use Rattle.std.proofs.Common.{◌≡◌, ◌∷◌, ◌∙◌, ◌+◌, arith, rules}
use Rattle.std.specs.Slice.Iter.{iter_rest}
use Rattle.hunk_base.proofs.SlotsLemmas.{present-step}
use Rattle.hunk_base.proofs.slots.SlotsIter.next_site.Goals as goal

pub returns-then-mark-lt-NO_SITE : goal.returns-then-mark-lt-NO_SITE
returns-then-mark-lt-NO_SITE g c =
    let marks : iter_rest c.loop-mark.self-inside.marks ≡ c.in-Some-Some.mark.now ∷ iter_rest c.next.new.self = search rules in
    let targets : iter_rest c.loop-mark.self-inside.targets ≡ c.in-Some-Some.target.now ∷ iter_rest c.next-in-loop-mark.new.self = search rules in
    present-step c.loop-mark.self-inside.start (c.loop-mark.self-inside.start + c.from.result) c.in-Some-Some.mark.now (c.loop-mark.self-inside.start + c.from-then-mark-lt-NO_SITE.result) c.in-Some-Some.target.now
    (iter_rest c.loop-mark.self-inside.marks) (iter_rest c.next.new.self) (iter_rest c.loop-mark.self-inside.targets) (iter_rest c.next-in-loop-mark.new.self) c.args.self.now
    (c.loop-mark.invariant.0 ∙ c.self.view_is) marks targets (omega (arith, c.from.ensures)) (omega (arith, c.from-then-mark-lt-NO_SITE.ensures)) c.if-mark-lt-NO_SITE.true
