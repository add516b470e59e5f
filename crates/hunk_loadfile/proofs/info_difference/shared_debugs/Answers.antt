use Rattle.std.proofs.Common.{◌∙◌, sym, arith}
use Rattle.std.specs.List.{common_prefix_len}
use Rattle.std.proofs.lemmas.List.{length-map}
use Rattle.hunk_words.specs.DebugInfo.{lists_of}
use Rattle.hunk_loadfile.specs.InfoDifference.{is_same_debug}
use Rattle.hunk_loadfile.proofs.InfoDifferenceLemmas.{debugs-same, debugs-unlike, nothing_shared}
use Rattle.hunk_loadfile.proofs.info_difference.shared_debugs.Goals as goal

pub returns-then-not-is_same_debug : goal.returns-then-not-is_same_debug
returns-then-not-is_same_debug g c =
    debugs-unlike c.args.first.now c.args.second.now c.loop-index.index c.index-first-index.result c.index-second-index.result c.deref.result.now c.deref-in-loop-index.result.now (omega (arith, c.min-index-end.ensures, c.loop-index-test.true)) (omega (arith, c.min-index-end.ensures, c.loop-index-test.true)) c.index-first-index.is c.index-second-index.is c.deref.ensures.value c.deref-in-loop-index.ensures.value
    (common_prefix_len is_same_debug (lists_of c.args.first.now) (lists_of c.args.second.now)) c.loop-index.invariant (sym c.is_same_debug.ensures ∙ c.if-not-is_same_debug.true)

pub loop-index-preserved : goal.loop-index-preserved
loop-index-preserved g c =
    debugs-same c.args.first.now c.args.second.now c.loop-index.index c.index-first-index.result c.index-second-index.result c.deref.result.now c.deref-in-loop-index.result.now (omega (arith, c.min-index-end.ensures, c.loop-index-test.true)) (omega (arith, c.min-index-end.ensures, c.loop-index-test.true)) c.index-first-index.is c.index-second-index.is c.deref.ensures.value c.deref-in-loop-index.ensures.value
    (common_prefix_len is_same_debug (lists_of c.args.first.now) (lists_of c.args.second.now)) c.loop-index.invariant (sym c.is_same_debug.ensures ∙ c.if-not-is_same_debug.false)

pub returns : goal.returns
returns g c =
    let firsts = length-map c.args.first.now (λ v. v.items) in
    let seconds = length-map c.args.second.now (λ v. v.items) in
    let rest = nothing_shared is_same_debug (lists_of c.args.first.now) (lists_of c.args.second.now) c.loop-index.index (omega (arith, firsts, seconds, c.min-index-end.ensures, c.loop-index-test.false)) in
    omega (arith, rest, c.min.ensures, c.min-index-end.ensures, c.loop-index.invariant, c.loop-index.auto.index-end, c.loop-index-test.false)
