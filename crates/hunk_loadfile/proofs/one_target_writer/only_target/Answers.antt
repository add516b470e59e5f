-- The first site has the target, and each that the walk shows.
use Rattle.std.proofs.Common.{◌≡◌, ◌<◌, ◌^◌, ◌∙◌, ℕ, length, ap, sym, subst, refl, arith, rules}
use Rattle.std.specs.List.{All}
use Rattle.hunk_loadfile.proofs.OneTargetWriterLemmas.{IsTo, all-to, all-to-none, are-few, are-same}
use Rattle.hunk_loadfile.proofs.one_target_writer.only_target.Goals as goal

pub loop-target-init : goal.loop-target-init
loop-target-init g c = λ left.
    let only = c.in_ok-first.first.now in
    let typed : c.in_ok-first.field-0-0 < 2 ^ 32 = first_of (omega arith, search rules) in
    let is = sym c.walk-walk.ensures.rest ∙ c.in_ok-first.ensures.steps in
    all-to only (c.in_ok-first.field-0-0, only) c.next.new.self c.args.sites.now.entries is (record { same = refl; typed = typed })
    (subst (All (IsTo only)) c.into_iter-target-iterator.ensures.into_iter_gives left)

pub loop-target-preserved : goal.loop-target-preserved
loop-target-preserved g c = λ left.
    let only = c.in_ok-first.first.now in
    let typed : c.in-Some.field-0-0 < 2 ^ 32 = first_of (omega arith, search rules) in
    c.loop-target.invariant
    (all-to only (c.in-Some.field-0-0, c.in-Some.target.now) c.next-in-loop-target.new.self c.loop-target.target-iterator c.in-Some.ensures.steps (record { same = c.if-target-only.false; typed = typed }) left)

pub returns-clause-same : goal.returns-clause-same
returns-clause-same g c = are-same c.in_ok-first.first.now c.args.sites.now.entries (c.loop-target.invariant (all-to-none c.in_ok-first.first.now c.loop-target.target-iterator c.in-None.ensures.steps.0))

pub returns-clause-some : goal.returns-clause-some
returns-clause-some g c = omega (arith, ap length (sym c.walk-walk.ensures.rest ∙ c.in_ok-first.ensures.steps))

pub returns-clause-few : goal.returns-clause-few
returns-clause-few g c =
    let all = c.loop-target.invariant (all-to-none c.in_ok-first.first.now c.loop-target.target-iterator c.in-None.ensures.steps.0) in
    are-few c.in_ok-first.first.now c.args.sites.now.limit c.args.sites.now.entries c.walk-walk.ensures.apart all
