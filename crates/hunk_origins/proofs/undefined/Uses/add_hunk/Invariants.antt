-- The references that there were, and those so far.
use Rattle.std.proofs.Common.{◌≡◌, ◌++◌, List, take}
use Rattle.hunk_origins.specs.DefinedNames.{AreDefinedBy}
use Rattle.hunk_origins.specs.Origins.{Origin}
use Rattle.hunk_origins.specs.Undefined.{Reference, undefined, uses_of}
use Rattle.hunk_origins.proofs.UndefinedLemmas.{from_hunk}
use Rattle.hunk_origins.proofs.undefined.Uses.add_hunk.Given as goal

abbrev pub invariant-loop-name : goal.invariant-loop-name
invariant-loop-name g l = (before : List Reference) (hunks : List Origin) → l.fn.self ≡ uses_of before → AreDefinedBy hunks l.defined
    → l.self ≡ uses_of (before ++ undefined hunks (from_hunk l.origin (take l.name-index l.name-items)))
