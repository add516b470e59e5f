use Rattle.std.proofs.Common.{◌≡◌, ◌<◌, ◌+◌, ◌∙◌, ap, arith, length, suc}
use Rattle.std.proofs.lemmas.List.{length-map}
use Rattle.clap.specs.Walk.{texts}
use Rattle.amihunk.proofs.StandardInputLemmas.{named_to, named_to-more}
use Rattle.amihunk.proofs.standard_input.input_names.Goals as goal

pub loop-argument-preserved : goal.loop-argument-preserved
loop-argument-preserved c =
    let arguments = c.args.arguments.items in
    let i = c.loop-argument.argument-index in
    let low : i < length (texts arguments) = rw length-map (omega (arith, c.loop-argument-test.true)) in
    let next : suc i ≡ i + 1 = omega arith in
    named_to-more (texts arguments) c.loop-argument.argument-items i _ c.input_name.result low c.loop-argument.invariant c.input_name.ensures
    ∙ ap (λ count. named_to count (texts arguments)) next
