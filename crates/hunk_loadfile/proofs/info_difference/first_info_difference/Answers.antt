use Rattle.std.proofs.Common.{◌≡◌, ◌∙◌, List, length, refl, ap, sym, arith}
use Rattle.hunk_loadfile.specs.InfoDifference.{first_info_difference, hunk_info_difference, hunks_info_difference}
use Rattle.hunk_loadfile.specs.LoadHunk.{FileHunk}
use Rattle.hunk_loadfile.proofs.FirstDifferenceLemmas.{left-found, left-more}
use Rattle.hunk_loadfile.proofs.info_difference.first_info_difference.Goals as goal

pub returns-then-is_some : goal.returns-then-is_some
returns-then-is_some g c =
    let counted : length c.hunks-first.result.now ≡ length c.hunks-second.result.now = ap (λ (hunks : List FileHunk). length hunks) c.hunks-first.ensures.value ∙ c.requires ∙ sym (ap (λ (hunks : List FileHunk). length hunks) c.hunks-second.ensures.value) in
    left-found hunk_info_difference hunks_info_difference (λ number x y xs ys. refl) c.hunks-first.result.now c.hunks-second.result.now c.loop-number.number c.index-first-number.result c.index-second-number.result c.hunk_info_difference-difference.result
    c.loop-number-test.true (omega (arith, counted, c.loop-number-test.true)) c.index-first-number.is c.index-second-number.is c.hunk_info_difference-difference.ensures (sym c.is_some.ensures ∙ c.if-is_some.true) c.loop-number.invariant
    ∙ ap (λ (hunks : List FileHunk). first_info_difference hunks c.hunks-second.result.now) c.hunks-first.ensures.value
    ∙ ap (first_info_difference c.args.first.now) c.hunks-second.ensures.value

pub loop-number-preserved : goal.loop-number-preserved
loop-number-preserved g c =
    let counted : length c.hunks-first.result.now ≡ length c.hunks-second.result.now = ap (λ (hunks : List FileHunk). length hunks) c.hunks-first.ensures.value ∙ c.requires ∙ sym (ap (λ (hunks : List FileHunk). length hunks) c.hunks-second.ensures.value) in
    left-more hunk_info_difference hunks_info_difference (λ number x y xs ys. refl) c.hunks-first.result.now c.hunks-second.result.now c.loop-number.number c.index-first-number.result c.index-second-number.result c.hunk_info_difference-difference.result
    c.loop-number-test.true (omega (arith, counted, c.loop-number-test.true)) c.index-first-number.is c.index-second-number.is c.hunk_info_difference-difference.ensures (sym c.is_some.ensures ∙ c.if-is_some.false) c.loop-number.invariant
