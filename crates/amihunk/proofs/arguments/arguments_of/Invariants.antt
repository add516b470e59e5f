-- Each of the arguments so far is a text, or has its word.
use Rattle.amihunk.specs.Arguments.{AreArguments}
use Rattle.amihunk.proofs.arguments.arguments_of.Given as goal

abbrev pub invariant-loop : goal.invariant-loop
invariant-loop g l = AreArguments l.arguments.items
