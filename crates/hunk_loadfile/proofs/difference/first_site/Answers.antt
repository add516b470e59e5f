use Rattle.std.proofs.Common.{◌≡◌, ◌==◌, ◌&&◌, ◌∙◌, false, ℕ, Some, ap}
use Rattle.hunk_loadfile.proofs.FirstDifferenceLemmas.{first_site-walked, other_offset, other_target-there, walked-first, walked-none, walked-second, walked-unlike}
use Rattle.hunk_loadfile.proofs.difference.first_site.Goals.{then-offset-other-via-then-offset-other, then-offset-other-via-else-offset-other+then-target-other_target}
use Rattle.hunk_loadfile.proofs.difference.first_site.Goals as goal

pub returns-in-None-next : goal.returns-in-None-next
returns-in-None-next g c =
    let site : ℕ × ℕ = (c.in-Some.offset, c.in-Some.target.now) in
    walked-first c.loop-offset.offset-iterator c.loop-offset.others c.next.new.self site c.in-Some.ensures.steps c.in-None-next.ensures.steps.0
    ∙ first_site-walked c.args.first.now c.args.second.now c.loop-offset.offset-iterator c.loop-offset.others c.requires c.walk-offset-items.ensures.apart c.walk-others.ensures.apart c.loop-offset.invariant.rest

pub returns-then-offset-other : goal.returns-then-offset-other
returns-then-offset-other g c =
    let site : ℕ × ℕ = (c.in-Some.offset, c.in-Some.target.now) in
    let other : ℕ × ℕ = (c.in-Some-next.other, c.in-Some-next.other_target.now) in
    let unequal : (site.0 == other.0 && site.1 == other.1) ≡ false = elim c.then-offset-other.branch [
      | then-offset-other-via-then-offset-other w ↦ other_offset site other w.if-offset-other.true
      | then-offset-other-via-else-offset-other+then-target-other_target w ↦ other_target-there site other w.if-offset-other.false w.if-target-other_target.true
    ] in
    ap Some c.min.ensures
    ∙ walked-unlike c.loop-offset.offset-iterator c.loop-offset.others c.next.new.self c.next-in-loop-offset.new.self site other c.in-Some.ensures.steps c.in-Some-next.ensures.steps unequal
    ∙ first_site-walked c.args.first.now c.args.second.now c.loop-offset.offset-iterator c.loop-offset.others c.requires c.walk-offset-items.ensures.apart c.walk-others.ensures.apart c.loop-offset.invariant.rest

pub returns-in-None-next-2 : goal.returns-in-None-next-2
returns-in-None-next-2 g c =
    walked-none c.loop-offset.offset-iterator c.loop-offset.others c.in-None.ensures.steps.0 c.in-None-next-2.ensures.steps.0
    ∙ first_site-walked c.args.first.now c.args.second.now c.loop-offset.offset-iterator c.loop-offset.others c.requires c.walk-offset-items.ensures.apart c.walk-others.ensures.apart c.loop-offset.invariant.rest

pub returns-in-Some-next-2 : goal.returns-in-Some-next-2
returns-in-Some-next-2 g c =
    let site : ℕ × ℕ = (c.in-Some-next-2.offset, c.in-Some-next-2.field-0-1.now) in
    walked-second c.loop-offset.offset-iterator c.loop-offset.others c.next-2.new.self site c.in-None.ensures.steps.0 c.in-Some-next-2.ensures.steps
    ∙ first_site-walked c.args.first.now c.args.second.now c.loop-offset.offset-iterator c.loop-offset.others c.requires c.walk-offset-items.ensures.apart c.walk-others.ensures.apart c.loop-offset.invariant.rest
