-- There are no more sites than a walk can show.
use Rattle.std.proofs.Common.{◌≡◌, ◌∙◌, ◌<◌, ◌≤◌, ◌+◌, ◌^◌, true, false, not, ℕ, List, length, sym, ap, subst, arith}
use Rattle.hunk_loadfile.specs.LoadForm.{is_short}
use Rattle.hunk_loadfile.proofs.LoadFormLemmas.{length-both, length-passes}
use Rattle.hunk_loadfile.proofs.relocation_writer.block_counts.Goals as goal

pub overflow_add-short : goal.overflow_add-short
overflow_add-short g c =
    let form = c.args.form in
    let entries = c.args.sites.now.entries in
    let site : ℕ × ℕ = (c.in-Some.offset, c.in-Some.field-0-1.now) in
    let is : is_short form site.0 ≡ true = sym c.is_short.ensures ∙ c.if-is_short.true in
    let here = length-passes (λ e. is_short form e.0) c.loop-offset.offset-iterator c.next.new.self site c.in-Some.ensures.steps is in
    let inside : c.loop-offset.short + 1 ≤ length entries = omega (arith, here, c.loop-offset.invariant.short, length-both form entries) in
    let walk = c.walk-offset-items in
    let shown = walk.type_inv.1.0.1 in
    let few : length entries < 2 ^ 64 = subst (λ (sites : List (ℕ × ℕ)). length sites < 2 ^ 64) (shown.0 ∙ walk.ensures.rest) shown.1 in
    record { fits = omega (arith, inside, few) }

pub overflow_add-long : goal.overflow_add-long
overflow_add-long g c =
    let form = c.args.form in
    let entries = c.args.sites.now.entries in
    let site : ℕ × ℕ = (c.in-Some.offset, c.in-Some.field-0-1.now) in
    let is : is_short form site.0 ≡ false = sym c.is_short.ensures ∙ c.if-is_short.false in
    let here = length-passes (λ e. not (is_short form e.0)) c.loop-offset.offset-iterator c.next.new.self site c.in-Some.ensures.steps (ap not is) in
    let inside : c.loop-offset.long + 1 ≤ length entries = omega (arith, here, c.loop-offset.invariant.long, length-both form entries) in
    let walk = c.walk-offset-items in
    let shown = walk.type_inv.1.0.1 in
    let few : length entries < 2 ^ 64 = subst (λ (sites : List (ℕ × ℕ)). length sites < 2 ^ 64) (shown.0 ∙ walk.ensures.rest) shown.1 in
    record { fits = omega (arith, inside, few) }
