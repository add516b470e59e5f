-- The names of the hunks so far.
use Rattle.std.proofs.Common.{take}
use Rattle.hunk_origins.specs.DefinedNames.{AreDefinedBy}
use Rattle.hunk_origins.proofs.defined_names.DefinedNames.of_hunks.Given as goal

abbrev pub invariant-loop-origin : goal.invariant-loop-origin
invariant-loop-origin g l = AreDefinedBy (take l.origin-index l.hunks) l.defined
