use Rattle.std.proofs.Common.{◌∙◌, List, refl, ap, sym, subst, arith}
use Rattle.hunk_loadfile.specs.Difference.{LiesInItsSize, first_difference, hunk_difference, hunks_difference}
use Rattle.hunk_loadfile.specs.LoadHunk.{FileHunk}
use Rattle.hunk_loadfile.specs.Rules.{IsLoadFile}
use Rattle.hunk_loadfile.proofs.DifferenceLemmas.{LiesInItsSize-from}
use Rattle.hunk_loadfile.proofs.FirstDifferenceLemmas.{first_difference-counted, left-found, left-more}
use Rattle.hunk_loadfile.proofs.difference.first_difference.Goals as goal

pub hunk_difference-difference-requires-clause-first : goal.hunk_difference-difference-requires-clause-first
hunk_difference-difference-requires-clause-first g c =
    let valid = subst IsLoadFile (sym c.hunks-first.ensures.value) c.hunks-first.ensures.valid in
    subst LiesInItsSize (sym c.index-first-number.is) (LiesInItsSize-from c.hunks-first.result.now valid c.loop-number.number c.index-first-number.result c.loop-number-test.true)

pub hunk_difference-difference-requires-clause-second : goal.hunk_difference-difference-requires-clause-second
hunk_difference-difference-requires-clause-second g c =
    let valid = subst IsLoadFile (sym c.hunks-second.ensures.value) c.hunks-second.ensures.valid in
    subst LiesInItsSize (sym c.index-second-number.is) (LiesInItsSize-from c.hunks-second.result.now valid c.loop-number.number c.index-second-number.result (omega (arith, c.if-first-second.false, c.loop-number-test.true)))

pub returns-then-is_some : goal.returns-then-is_some
returns-then-is_some g c =
    left-found hunk_difference hunks_difference (λ number x y xs ys. refl) c.hunks-first.result.now c.hunks-second.result.now c.loop-number.number c.index-first-number.result c.index-second-number.result c.hunk_difference-difference.result
    c.loop-number-test.true (omega (arith, c.if-first-second.false, c.loop-number-test.true)) c.index-first-number.is c.index-second-number.is c.hunk_difference-difference.ensures (sym c.is_some.ensures ∙ c.if-is_some.true) c.loop-number.invariant
    ∙ sym (first_difference-counted c.hunks-first.result.now c.hunks-second.result.now c.if-first-second.false)
    ∙ ap (λ (hunks : List FileHunk). first_difference hunks c.hunks-second.result.now) c.hunks-first.ensures.value
    ∙ ap (first_difference c.args.first.now) c.hunks-second.ensures.value

pub loop-number-preserved : goal.loop-number-preserved
loop-number-preserved g c =
    left-more hunk_difference hunks_difference (λ number x y xs ys. refl) c.hunks-first.result.now c.hunks-second.result.now c.loop-number.number c.index-first-number.result c.index-second-number.result c.hunk_difference-difference.result
    c.loop-number-test.true (omega (arith, c.if-first-second.false, c.loop-number-test.true)) c.index-first-number.is c.index-second-number.is c.hunk_difference-difference.ensures (sym c.is_some.ensures ∙ c.if-is_some.false) c.loop-number.invariant
