-- The first of the files are what their words mean, and the remaining ones are words.
use Rattle.clap.specs.Walk.{texts}
use Rattle.amihunk.proofs.ArgumentsLemmas.{MeantTo}
use Rattle.amihunk.proofs.arguments.meant_files.Given as goal

abbrev pub invariant-loop-word : goal.invariant-loop-word
invariant-loop-word l = MeantTo l.fn.arguments l.word-index (texts l.fn.words.items) (texts l.word-items)
