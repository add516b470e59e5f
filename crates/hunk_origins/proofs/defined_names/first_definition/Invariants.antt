-- None of the hunks so far defines the name.
use Rattle.std.proofs.Common.{◌≡◌, drop}
use Rattle.hunk_origins.specs.DefinedNames.{first_definition}
use Rattle.hunk_origins.proofs.defined_names.first_definition.Given as goal

abbrev pub invariant-loop-origin : goal.invariant-loop-origin
invariant-loop-origin g l = first_definition l.name (drop l.origin-index l.hunks) ≡ first_definition l.name l.hunks
