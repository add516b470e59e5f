-- The arguments so far are names, and the remaining ones are as they were.
use Rattle.std.proofs.Common.{◌≡◌}
use Rattle.clap.specs.Walk.{texts}
use Rattle.amihunk.proofs.StandardInputLemmas.{named_to}
use Rattle.amihunk.proofs.standard_input.input_bytes.Given as goal

abbrev pub invariant-loop-argument : goal.invariant-loop-argument
invariant-loop-argument l = texts l.argument-items ≡ named_to l.argument-index (texts l.fn.arguments.items)
